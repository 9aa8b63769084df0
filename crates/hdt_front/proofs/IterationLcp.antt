-- The common prefix of successive strings of an iteration.
use Rattle.std.proofs.Common.{◌≡◌, ◌≤◌, ◌-◌, ◌++◌, Bool, ℕ, List, length, take, drop, ap, sym, subst, ◌∙◌}
use Rattle.std.proofs.lemmas.List.{take-append-drop}
use Rattle.hdt_front.specs.Decoding.{is_block_start, stored_prefix_len, suffix_of, decoded_string}
use Rattle.hdt_front.specs.StringChecks.{BlockLayout}
use Rattle.hdt_front.specs.Iteration.{LocatedString, IterState, located_from, first_lcp}
use Rattle.hdt_front.specs.Laws.IterationSteps.{IsIterStep}
use Rattle.hdt_front.specs.Laws.Canonical.{front_agrees}
use Rattle.hdt_front.proofs.LcpOrder.{lcp_len, lcp_at_least_kept}

front_kept : (h : Bool) (last rest : List ℕ) → stored_prefix_len h rest ≤ length last
    → stored_prefix_len h rest ≤ lcp_len (decoded_string h last rest) last
unfolding decoded_string
front_kept h last rest fits = lcp_at_least_kept (stored_prefix_len h rest) last (suffix_of h rest) fits

-- It is at least the prefix length of the entry.
pub kept_first : (p : BlockLayout) (count i : ℕ) (last rest : List ℕ) (w : IterState) (k : ℕ)
    → IsIterStep p count i last rest
    → (let before : IterState = record { last = last; ahead = located_from p (count - i) i last rest } in before) ≡ w
    → k ≡ stored_prefix_len (is_block_start p.block_size i) rest → k ≤ first_lcp w.ahead w.last
kept_first p count i last rest w k m view e =
    subst (λ (w : IterState). k ≤ first_lcp w.ahead w.last) view
    (subst (λ (l : List LocatedString). k ≤ first_lcp l last) (sym m.ahead)
    (subst (λ n. n ≤ lcp_len (decoded_string (is_block_start p.block_size i) last rest) last) (sym e)
    (front_kept (is_block_start p.block_size i) last rest m.row.fits)))

-- A string is its common prefix with the last one and then its suffix.
pub prefix_then_suffix : (last string : List ℕ) (k : ℕ) → k ≡ lcp_len last string
    → take k last ++ drop k string ≡ string
prefix_then_suffix last string k e =
    ap (λ n. take n last ++ drop k string) e ∙ ap (λ l. l ++ drop k string) (front_agrees last string)
    ∙ ap (λ n. take n string ++ drop k string) (sym e) ∙ take-append-drop k string
