-- Comparing the current strings of two runs by their common prefixes with the string written last.
use Rattle.std.proofs.Common.{◌≡◌, ℕ, ◌<◌, List, [], ◌∷◌, ◌++◌, length, ap, sym, ◌∙◌, arith}
use Rattle.std.specs.List.{Contains}
use Rattle.std.specs.Ordering.{ordering_reverse}
use Rattle.std.specs.declared.cmp.Ordering.TheVariants.{Less}
use Rattle.std.specs.Cmp.Lexicographic.{nat_list_cmp_total}
use Rattle.std.proofs.lemmas.List.{get_or_push, length_push}
use Rattle.std.proofs.lemmas.List.Elements.{Contains-get_or}
use Rattle.hdt_front.specs.Laws.CommonPrefix.{lcp_le_flip, lcp_symmetric, lcp_transitive, shared_prefix_left}
use Rattle.hdt_front.specs.Order.{string_cmp, lcp_len}
use Rattle.hdt_front.specs.Section.{before}
use Rattle.hdt_file.specs.File.{GraphParts}
use Rattle.hdt_dict.specs.declared.dictionary.SectionId.{SectionId}
use Rattle.hdt_build.specs.declared.section_run.SectionRun.{SectionRun}
use Rattle.hdt_build.specs.Inside.Rewriting.{IsValidRun, PrefixesDecideOrder}

-- of two strings that are greater than a third, the one that has the longer common prefix with it is less
further_first : (last a b : List ℕ) → lcp_len last b < lcp_len last a → string_cmp last b ≡ Less
    → (string_cmp a b ≡ Less) × (lcp_len a b ≡ lcp_len last b)
further_first last a b more less =
    let t = shared_prefix_left (lcp_len last a) a last b more (lcp_le_flip (lcp_len last a) last a (omega arith)) in
    (t.0 ∙ less, t.1)

pub tell : (last : List ℕ) (one two : SectionRun) → one.lcp ≡ lcp_len last one.strings.last
    → two.lcp ≡ lcp_len last two.strings.last
    → (0 < one.lcp → string_cmp last two.strings.last ≡ Less) → (0 < two.lcp → string_cmp last one.strings.last ≡ Less)
    → PrefixesDecideOrder one two
tell last one two i j above_one above_two =
    let a : List ℕ = one.strings.last in
    let b : List ℕ = two.strings.last in
    record {
      first = λ more. let t = further_first last a b (omega (arith, more, i, j)) (above_one (omega (arith, more))) in
          (t.0, t.1 ∙ sym j);
      second = λ more.
          let t = further_first last b a (omega (arith, more, i, j)) (above_two (omega (arith, more))) in (
            nat_list_cmp_total.antisymm a b ∙ ap ordering_reverse t.0,
            lcp_symmetric a b ∙ t.1 ∙ sym i,
          );
      tied = λ same. lcp_transitive one.lcp a last b (lcp_le_flip one.lcp last a (omega (arith, i)))
          (omega (arith, same, j));
    }

abbrev pub last_in : List (List ℕ) → List ℕ
last_in strings = before strings (length strings)

-- if all strings are less than another one, so is the last, if there is one
pub last_less : (strings : List (List ℕ)) (x y : List ℕ) (n : ℕ)
    → ((z : List ℕ) → Contains strings z → string_cmp z y ≡ Less) → n ≡ lcp_len (last_in strings) x → 0 < n
    → string_cmp (last_in strings) y ≡ Less
last_less [] x y n below e some = absurd (omega (arith, e, some))
last_less (s ∷ strings) x y n below e some =
    below (last_in (s ∷ strings)) (Contains-get_or (s ∷ strings) (length strings) [] (omega arith))

-- the string written last
pub last_written : (strings : List (List ℕ)) (x : List ℕ) → last_in (strings ++ x ∷ []) ≡ x
last_written strings x = get_or_push ([] ∷ strings) x [] (length (strings ++ x ∷ []))
    (omega (arith, length_push strings x))

-- a run stays valid if its recorded prefix length changes
pub same_run : (g : GraphParts) (p : SectionId) (run : SectionRun) (n : ℕ) → IsValidRun g p run
    → (let new : SectionRun = record run { lcp = n } in IsValidRun g p new)
same_run g p run n r = record {
  progress = r.progress;
  within = r.within;
  to = r.to;
  here = λ lt. let h = r.here lt in record { given = h.given; last = h.last; kept = h.kept };
}
