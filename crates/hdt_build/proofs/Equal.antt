-- Equal graphs have equal files.
use Rattle.std.proofs.Common.{◌≡◌, ◌∙◌, ℕ, List, length, ap, sym}
use Rattle.hdt_dict.specs.Dictionary.{SectionLists}
use Rattle.hdt_dict.specs.Strings.{SameMembers}
use Rattle.hdt_triples.specs.TripleSequences.{Triple}
use Rattle.hdt_build.specs.declared.options.Options.{Options}
use Rattle.hdt_build.specs.declared.options.Report.{Report}
use Rattle.hdt_build.specs.Built.{report_of, IsBuilt}
use Rattle.hdt_build.specs.Canonical.{canonical_file, IsCanonical}
use Rattle.hdt_file.specs.Denoted.{StringTriple}
use Rattle.hdt_build.specs.Header.{header_body}
use Rattle.hdt_build.proofs.Unique.{canonical_unique, same_file}

pub one_file : (header : List ℕ) (g h : List StringTriple) (b : ℕ) (x y : List ℕ) → SameMembers g h
    → IsCanonical header g b x → IsCanonical header h b y → x ≡ y
one_file header g h b x y same p q =
    p.bytes_are ∙ same_file (canonical_file header b) g h p.dictionary q.dictionary p.triples q.triples same p.form
    q.form ∙ sym q.bytes_are

pub count_is : (d : SectionLists) (ts : List Triple) (bytes : List ℕ) (r : Report) → r ≡ report_of d ts bytes
    → r.triples ≡ length ts
unfolding report_of
count_is d ts bytes r e = ap (λ (r : Report). r.triples) e

module _ (options : Options) (g h : List StringTriple) (x y : List ℕ) (r s : Report) (same : SameMembers g h)
    (p : IsBuilt options g x r) (q : IsBuilt options h y s) where
  one : (p.file.dictionary ≡ q.file.dictionary) × (p.file.triples ≡ q.file.triples)
  one = canonical_unique g h p.file.dictionary q.file.dictionary p.file.triples q.file.triples same p.file.form
      q.file.form

  counts : r.triples ≡ s.triples
  counts = count_is p.file.dictionary p.file.triples x r p.report_is ∙ ap (λ (ts : List Triple). length ts) one.1
      ∙ sym (count_is q.file.dictionary q.file.triples y s q.report_is)

  pub same_bytes : x ≡ y
  same_bytes =
      p.file.bytes_are
      ∙ ap (λ (n : ℕ). canonical_file (header_body options.base.items n) options.block_size p.file.dictionary
      p.file.triples) counts
      ∙ same_file (canonical_file (header_body options.base.items s.triples) options.block_size) g h p.file.dictionary
      q.file.dictionary p.file.triples q.file.triples same p.file.form q.file.form
      ∙ sym q.file.bytes_are

  pub same_reports : r ≡ s
  same_reports =
      p.report_is
      ∙ ap (report_of p.file.dictionary p.file.triples) same_bytes
      ∙ same_file (λ d ts. report_of d ts y) g h p.file.dictionary q.file.dictionary p.file.triples q.file.triples same
      p.file.form q.file.form
      ∙ sym q.report_is
