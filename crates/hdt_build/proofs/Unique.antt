-- A graph has only one dictionary and one list of ID triples.
use Rattle.std.proofs.Common.{◌≡◌, ◌∙◌, ℕ, List, map, ap, subst}
use Rattle.std.specs.List.{Contains}
use Rattle.std.specs.Cmp.Lexicographic.{nat_list_cmp_total}
use Rattle.std.proofs.lemmas.List.Elements.{All-contains}
use Rattle.hdt_dict.specs.Strings.{SameMembers}
use Rattle.hdt_front.specs.Order.{string_cmp}
use Rattle.hdt_dict.specs.Split.{IsSplit}
use Rattle.hdt_dict.specs.Laws.Members.{SameMembers-map, SameMembers-trans, Contains-map, Contains-from_map}
use Rattle.hdt_dict.specs.Laws.Members.{ascending_unique}
use Rattle.hdt_triples.specs.TripleSequences.{Triple}
use Rattle.hdt_file.specs.Denoted.{StringTriple}
use Rattle.hdt_build.specs.Graph.{IsEncodedGraph}
use Rattle.hdt_build.proofs.StringsOfIds.{string_triple}
use Rattle.hdt_build.proofs.Distinct.{number_unique, subjects_distinct, predicates_distinct, objects_distinct}
use Rattle.hdt_build.proofs.Order.{triple_total, triple_cmp, sorted_triples}
use Rattle.hdt_dict.specs.Dictionary.{SectionLists, role_strings}
use Rattle.hdt_wire.specs.declared.Role.TheVariants.{Subject, Predicate, Object}
use Rattle.hdt_triples.specs.Order.{IsInRange}
use Rattle.hdt_file.specs.File.{role_counts}

-- the sections of lists with the same members
pub split_same : {ss ps os tt' qs us : List (List ℕ)} (d : SectionLists) → SameMembers ss tt' → SameMembers ps qs
    → SameMembers os us → IsSplit ss ps os d → IsSplit tt' qs us d
split_same d s p o h = record {
  shared_ascend = h.shared_ascend;
  subjects_ascend = h.subjects_ascend;
  predicates_ascend = h.predicates_ascend;
  objects_ascend = h.objects_ascend;
  shared = λ x. (
    λ a. let r = (h.shared x).0 a in ((s x).0 r.0, (o x).0 r.1),
    λ r. (h.shared x).1 ((s x).1 r.0, (o x).1 r.1),
  );
  subjects = λ x. (
    λ a. let r = (h.subjects x).0 a in ((s x).0 r.0, λ b. r.1 ((o x).1 b)),
    λ r. (h.subjects x).1 ((s x).1 r.0, λ b. r.1 ((o x).0 b)),
  );
  predicates = λ x. (λ a. (p x).0 ((h.predicates x).0 a), λ r. (h.predicates x).1 ((p x).1 r));
  objects = λ x. (
    λ a. let r = (h.objects x).0 a in ((o x).0 r.0, λ b. r.1 ((s x).1 b)),
    λ r. (h.objects x).1 ((o x).1 r.0, λ b. r.1 ((s x).0 b)),
  );
}

-- the sections of three lists of strings are unique
same_sections : (a b c d e f g h : List (List ℕ)) → a ≡ e → b ≡ f → c ≡ g → d ≡ h → let l : SectionLists =
    record { shared = a; subjects = b; predicates = c; objects = d } in let r : SectionLists =
    record { shared = e; subjects = f; predicates = g; objects = h } in l ≡ r
same_sections a b c d e f g h p q r s = cc

pub split_unique : {ss ps os : List (List ℕ)} (d e : SectionLists) → IsSplit ss ps os d → IsSplit ss ps os e → d ≡ e
split_unique d e h g = same_sections _ _ _ _ _ _ _ _
    (ascending_unique string_cmp nat_list_cmp_total d.shared e.shared h.shared_ascend g.shared_ascend
    (λ x. (λ a. (g.shared x).1 ((h.shared x).0 a), λ a. (h.shared x).1 ((g.shared x).0 a))))
    (ascending_unique string_cmp nat_list_cmp_total d.subjects e.subjects h.subjects_ascend g.subjects_ascend
    (λ x. (λ a. (g.subjects x).1 ((h.subjects x).0 a), λ a. (h.subjects x).1 ((g.subjects x).0 a))))
    (ascending_unique string_cmp nat_list_cmp_total d.predicates e.predicates h.predicates_ascend g.predicates_ascend
    (λ x. (λ a. (g.predicates x).1 ((h.predicates x).0 a), λ a. (h.predicates x).1 ((g.predicates x).0 a))))
    (ascending_unique string_cmp nat_list_cmp_total d.objects e.objects h.objects_ascend g.objects_ascend
    (λ x. (λ a. (g.objects x).1 ((h.objects x).0 a), λ a. (h.objects x).1 ((g.objects x).0 a))))

same_triple : (a b c d e f : ℕ) → a ≡ b → c ≡ d → e ≡ f → let l : Triple = (a, c, e) in let r : Triple = (b, d, f) in
    l ≡ r
same_triple a b c d e f p q r = cc

-- ID triples in range that denote the same string triple are equal
pub triple_unique : {ss ps os : List (List ℕ)} (d : SectionLists) → IsSplit ss ps os d → (m n : Triple)
    → IsInRange (role_counts d) m → IsInRange (role_counts d) n → string_triple d m ≡ string_triple d n → m ≡ n
triple_unique d h m n a b same =
    same_triple m.0 n.0 m.1 n.1 m.2 n.2
    (number_unique (role_strings d Subject) (subjects_distinct d h) m.0 n.0 a.0.0 a.0.1 b.0.0 b.0.1
    (ap (λ (t : StringTriple). t.0) same))
    (number_unique (role_strings d Predicate) (predicates_distinct d h) m.1 n.1 a.1.0 a.1.1 b.1.0 b.1.1
    (ap (λ (t : StringTriple). t.1) same))
    (number_unique (role_strings d Object) (objects_distinct d h) m.2 n.2 a.2.0 a.2.1 b.2.0 b.2.1
    (ap (λ (t : StringTriple). t.2) same))

-- a triple of one list is in the other one
carried : {g : List StringTriple} (d : SectionLists) (ts us : List Triple) → IsEncodedGraph g d ts
    → IsEncodedGraph g d us → (n : Triple) → Contains ts n → Contains us n
carried {g} d ts us p q n there =
    let shown : Contains (map (string_triple d) us) (string_triple d n) =
    (q.denotes (string_triple d n)).1
    ((p.denotes (string_triple d n)).0 (Contains-map (string_triple d) ts n there)) in
    let back = Contains-from_map (string_triple d) us (string_triple d n) shown in
    subst (Contains us) (triple_unique d p.sections back.0 n
    (All-contains (IsInRange (role_counts d)) us back.0 q.in_range back.1)
    (All-contains (IsInRange (role_counts d)) ts n p.in_range there) back.2) back.1

pub triples_unique : {g : List StringTriple} (d : SectionLists) (ts us : List Triple) → IsEncodedGraph g d ts
    → IsEncodedGraph g d us → ts ≡ us
triples_unique d ts us p q =
    ascending_unique triple_cmp triple_total ts us (sorted_triples ts p.ascending) (sorted_triples us q.ascending)
    (λ n. (carried d ts us p q n, carried d us ts q p n))

pub canonical_same : (g h : List StringTriple) (d : SectionLists) (ts : List Triple) → SameMembers g h
    → IsEncodedGraph g d ts → IsEncodedGraph h d ts
canonical_same g h d ts same p = record {
  sections = split_same d (SameMembers-map (λ (t : StringTriple). t.0) g h same)
      (SameMembers-map (λ (t : StringTriple). t.1) g h same)
      (SameMembers-map (λ (t : StringTriple). t.2) g h same) p.sections;
  ascending = p.ascending;
  in_range = p.in_range;
  denotes = SameMembers-trans (map (string_triple d) ts) g h p.denotes same;
}

pub canonical_unique : (g h : List StringTriple) (d e : SectionLists) (ts us : List Triple) → SameMembers g h
    → IsEncodedGraph g d ts → IsEncodedGraph h e us → (d ≡ e) × (ts ≡ us)
canonical_unique g h d e ts us same p q =
    let r = canonical_same g h d ts same p in
    let one = split_unique d e r.sections q.sections in
    (one, triples_unique e ts us (subst (λ x. IsEncodedGraph h x ts) one r) q)

pub same_file : {X : Type 0} (file : SectionLists → List Triple
    → X) (g h : List StringTriple) (d e : SectionLists) (ts us : List Triple) → SameMembers g h → IsEncodedGraph g d ts
    → IsEncodedGraph h e us → file d ts ≡ file e us
same_file file g h d e ts us same p q =
    let r = canonical_unique g h d e ts us same p q in
    ap (λ x. file x ts) r.0 ∙ ap (file e) r.1
