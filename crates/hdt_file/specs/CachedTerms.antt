-- What a writer of terms caches between lines.
use Rattle.std.specs.Prelude.{ℕ, ⊤, List, [], Option, None, Some}
use Rattle.std.specs.List.{All}
use Rattle.hdt_wire.specs.declared.Role.{Role}
use Rattle.hdt_wire.specs.declared.Role.TheVariants.{Subject, Predicate, Object}
use Rattle.hdt_file.specs.File.{GraphParts}
use Rattle.hdt_file.specs.Denoted.{string_of}
use Rattle.hdt_file.specs.TextWriting.{AppendsTerm}
use Rattle.hdt_file.specs.declared.term_writing.CachedTerm.{CachedTerm}
use Rattle.hdt_file.specs.declared.term_writing.TermWriter.{TermWriter}

-- nothing is cached, or the text is the term with ID n of the role and the separator after it
abbrev pub CachesTerm : GraphParts → Role → Option ℕ → List ℕ → Type 0
CachesTerm g role None text = ⊤
CachesTerm g role (Some n) text = AppendsTerm role (string_of g role n) [] text

-- `CachesTerm` of a predicate
abbrev pub CachesPredicate : GraphParts → CachedTerm → Type 0
CachesPredicate g s = CachesTerm g Predicate s.id s.text.items

-- the last term of each role, and terms of predicates
pub record CachesTerms (g : GraphParts) (s : TermWriter) : Type 0 where
  pub subject : CachesTerm g Subject s.subject.id s.subject.text.items
  pub predicate : CachesTerm g Predicate s.predicate.id s.predicate.text.items
  pub object : CachesTerm g Object s.object.id s.object.text.items
  pub cached_predicates : All (CachesPredicate g) s.cached_predicates.items
