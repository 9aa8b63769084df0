pub mod AnswerLoop
pub mod FrequencyKeys
