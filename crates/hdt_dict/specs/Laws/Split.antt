-- Dividing strings that are UTF-8 without zero bytes gives valid sections of a dictionary.
use Rattle.std.proofs.Common.{ℕ, List, []}
use Rattle.std.specs.List.{All}
use Rattle.std.proofs.lemmas.List.Elements.{All-contains}
use Rattle.hdt_front.specs.Section.{AreSectionStrings}
use Rattle.hdt_dict.specs.Laws.Members.{All-from_members}
use Rattle.hdt_front.specs.Order.{IsAscending}
use Rattle.hdt_dict.specs.Split.{IsSplit}
use Rattle.hdt_dict.specs.Strings.{IsDictionaryString}
use Rattle.hdt_dict.specs.Writing.{AreSections}
use Rattle.hdt_dict.specs.Dictionary.{SectionLists}

pub texts_ascend : (xs : List (List ℕ)) → All IsDictionaryString xs → IsAscending xs → AreSectionStrings xs
texts_ascend xs are up = record {
  utf8 = λ i lt. (are i [] lt).utf8;
  no_zero = λ i lt. (are i [] lt).no_zero;
  ascend = up;
}

pub split_sections : (ss ps os : List (List ℕ)) (d : SectionLists) → IsSplit ss ps os d → All IsDictionaryString ss
    → All IsDictionaryString ps → All IsDictionaryString os → AreSections d
split_sections ss ps os d h s p o = record {
  shared = texts_ascend d.shared
      (All-from_members IsDictionaryString d.shared
      (λ x there. All-contains IsDictionaryString ss x s ((h.shared x).0 there).0)) h.shared_ascend;
  subjects = texts_ascend d.subjects
      (All-from_members IsDictionaryString d.subjects
      (λ x there. All-contains IsDictionaryString ss x s ((h.subjects x).0 there).0)) h.subjects_ascend;
  predicates = texts_ascend d.predicates
      (All-from_members IsDictionaryString d.predicates
      (λ x there. All-contains IsDictionaryString ps x p ((h.predicates x).0 there))) h.predicates_ascend;
  objects = texts_ascend d.objects
      (All-from_members IsDictionaryString d.objects
      (λ x there. All-contains IsDictionaryString os x o ((h.objects x).0 there).0)) h.objects_ascend;
  shared_subjects = λ x a b. ((h.subjects x).0 b).1 ((h.shared x).0 a).1;
  shared_objects = λ x a b. ((h.objects x).0 b).1 ((h.shared x).0 a).0;
  subjects_objects = λ x a b. ((h.objects x).0 b).1 ((h.subjects x).0 a).0;
}
