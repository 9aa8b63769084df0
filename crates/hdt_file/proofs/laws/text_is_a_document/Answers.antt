use Rattle.hdt_file.proofs.Documents.{text_document}
use Rattle.hdt_file.proofs.laws.text_is_a_document.Goals as goal

pub returns : goal.returns
returns c = text_document c.written_text_encodes_term.ensures.encodes c.written_text_encodes_term.ensures.no_end
