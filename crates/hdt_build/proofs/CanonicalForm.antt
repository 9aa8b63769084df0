-- A file is canonical exactly if it is tight, and its bytes are those that its own dictionary and triples are encoded
-- as.
use Rattle.std.proofs.Common.{◌≡◌, ◌∙◌, ◌↔◌, inl, inr, ℕ, ◌+◌, ◌-◌, ◌<◌, ◌≤◌, ◌^◌, Bool, false, List, [], ◌++◌}
use Rattle.std.proofs.Common.{map, length}
use Rattle.std.proofs.Common.{Result, Ok, Err, get_or, refl, ap, sym, subst, arith}
use Rattle.std.specs.Prelude.{IfOk, IsTrue}
use Rattle.std.specs.declared.alloc.AllocError.{AllocError}
use Rattle.std.specs.List.{Contains}
use Rattle.std.proofs.lemmas.List.{get_or_append_left, get_or-append-add, get_or_default, length-append}
use Rattle.std.proofs.lemmas.List.{length-map, map-id}
use Rattle.std.proofs.lemmas.List.Elements.{Contains-get_or}
use Rattle.std.proofs.lemmas.Result.{IfOk-weaker}
use Rattle.hdt_wire.specs.Checks.{ReadsUnlessOom}
use Rattle.hdt_wire.specs.declared.Role.TheVariants.{Subject, Predicate, Object}
use Rattle.hdt_wire.specs.declared.fault.Fault.{Fault}
use Rattle.hdt_dict.specs.Laws.Members.{Contains-map}
use Rattle.hdt_dict.specs.Split.{IsSplit}
use Rattle.hdt_dict.specs.Strings.{SameMembers}
use Rattle.hdt_dict.specs.Writing.{AreSections}
use Rattle.hdt_triples.specs.TripleSequences.{BitmapTriples, Triple, triples_of}
use Rattle.hdt_triples.specs.Uses.{role_component}
use Rattle.hdt_triples.specs.Laws.TripleSequences.{length-triples}
use Rattle.hdt_file.specs.Denoted.{denoted_triple}
use Rattle.hdt_file.specs.Faults.{open_fault_of}
use Rattle.hdt_file.specs.File.{GraphParts, IsLayout}
use Rattle.hdt_file.specs.declared.fault.OpenFault.{OpenFault}
use Rattle.hdt_file.specs.declared.fault.OpenFault.TheVariants as opening
use Rattle.hdt_file.specs.Graph.{IsGraph}
use Rattle.hdt_file.specs.Head.{HeadParts, IsHead}
use Rattle.hdt_file.specs.Tight.{IsTight, IsTightLayout}
use Rattle.hdt_build.specs.Built.{IsRewrittenAs, report_of}
use Rattle.hdt_build.specs.Canonical.{canonical_file}
use Rattle.hdt_build.specs.Graph.{IsEncodedGraph, subjects_of, predicates_of, objects_of}
use Rattle.hdt_build.specs.Layouts.{denoted_by, graph_parts_of}
use Rattle.hdt_build.specs.Options.{IsBlockSize}
use Rattle.hdt_build.specs.Inside.Rewriting.{string_of_id}
use Rattle.hdt_build.proofs.BuiltForm.{form_sections, made_of}
use Rattle.hdt_build.proofs.Denoting.{encoded_form, once}
use Rattle.hdt_build.proofs.DenotedStrings.{denoted_texts, some_denoted}
use Rattle.hdt_build.proofs.DistinctMembers.{at_most}
use Rattle.hdt_build.proofs.Layouts.{file_layout, file_tight}
use Rattle.hdt_build.proofs.RewrittenSections.{at_shared, meet, named, numbered, side}
use Rattle.hdt_build.proofs.RunOrder.{used_range}
use Rattle.hdt_build.proofs.StringsOfIds.{string_triple, term_in, term_is}

pub graph_sections : (g : GraphParts) → IsGraph g → AreSections g.dictionary
graph_sections g h = record {
  shared = h.shared;
  subjects = h.subjects;
  predicates = h.predicates;
  objects = h.objects;
  shared_subjects = h.shared_subjects;
  shared_objects = h.shared_objects;
  subjects_objects = h.subjects_objects;
}

-- ---- the IDs of strings

-- x is the string with ID n, from a number on up to another
record HasIdIn (xs : List (List ℕ)) (x : List ℕ) (from to : ℕ) : Type 0 where
  id : ℕ
  after : from < id
  within : id ≤ to
  is : string_of_id xs id ≡ x

at_index : (xs : List (List ℕ)) (x : List ℕ) (k : ℕ) → k < length xs → get_or xs k x ≡ x → string_of_id xs (k + 1) ≡ x
at_index xs x k low is =
    let at : k + 1 - 1 ≡ k = omega arith in
    term_is xs (k + 1) (omega arith) ∙ ap (λ (j : ℕ). get_or xs j []) at ∙ get_or_default xs k [] x low ∙ is

in_list : (xs : List (List ℕ)) (x : List ℕ) → Contains xs x → HasIdIn xs x 0 (length xs)
in_list xs x h = record {
  id = h.0 + 1;
  after = omega arith;
  within = omega (arith, h.1);
  is = at_index xs x h.0 h.1 h.2;
}

in_first : (xs ys : List (List ℕ)) (x : List ℕ) → Contains xs x → HasIdIn (xs ++ ys) x 0 (length xs)
in_first xs ys x h = record {
  id = h.0 + 1;
  after = omega arith;
  within = omega (arith, h.1);
  is = at_index (xs ++ ys) x h.0 (omega (arith, h.1, length-append xs ys)) (get_or_append_left xs ys x h.0 h.1 ∙ h.2);
}

in_second : (xs ys : List (List ℕ)) (x : List ℕ) → Contains ys x
    → HasIdIn (xs ++ ys) x (length xs) (length (xs ++ ys))
in_second xs ys x h = record {
  id = length xs + h.0 + 1;
  after = omega arith;
  within = omega (arith, h.1, length-append xs ys);
  is = at_index (xs ++ ys) x (length xs + h.0) (omega (arith, h.1, length-append xs ys))
      (get_or-append-add xs ys h.0 x ∙ h.2);
}

first_in : (xs ys : List (List ℕ)) (x : List ℕ) (n : ℕ) → 1 ≤ n → n ≤ length xs → string_of_id (xs ++ ys) n ≡ x
    → Contains xs x
first_in xs ys x n from to is =
    let lt : n - 1 < length xs = omega (arith, from, to) in
    subst (Contains xs) (sym (get_or_append_left xs ys [] (n - 1) lt) ∙ sym (term_is (xs ++ ys) n from) ∙ is)
    (Contains-get_or xs (n - 1) [] lt)

-- ---- the sections of a tight graph are those of the string triples that it denotes

module _ (g : GraphParts) (h : IsGraph g) (tight : IsTight g) where
  abbrev shared_len : ℕ
  shared_len = length g.dictionary.shared

  shared_is : (x : List ℕ) → Contains g.dictionary.shared x → Contains (subjects_of (denoted_by g)) x
      × Contains (objects_of (denoted_by g)) x
  shared_is x there =
      let d = g.dictionary in
      let r = in_first d.shared d.subjects x there in
      let s = length-append d.shared d.subjects in
      let o = length-append d.shared d.objects in (
        named g h Subject x r.id (tight Subject r.id r.after (omega (arith, r.within, s))) r.is,
        named g h Object x r.id (tight Object r.id r.after (omega (arith, r.within, o)))
            (sym (at_shared g h r.id r.after r.within) ∙ r.is),
      )

  is_shared : (x : List ℕ) → Contains (subjects_of (denoted_by g)) x → Contains (objects_of (denoted_by g)) x
      → Contains g.dictionary.shared x
  is_shared x subject object =
      let n = numbered g h Subject x subject in
      let m = numbered g h Object x object in
      first_in g.dictionary.shared g.dictionary.subjects x n.0 (used_range g h Subject n.0 n.1).0
      (meet g h n.0 m.0 n.1 m.1 (n.2 ∙ sym m.2)).1 n.2

  subject_is : (x : List ℕ) → Contains g.dictionary.subjects x → Contains (subjects_of (denoted_by g)) x
      × (Contains (objects_of (denoted_by g)) x → ⊥)
  subject_is x there =
      let r = in_second g.dictionary.shared g.dictionary.subjects x there in
      let used = tight Subject r.id (omega (arith, r.after)) r.within in (
        named g h Subject x r.id used r.is,
        λ other. let m = numbered g h Object x other in
            let e = meet g h r.id m.0 used m.1 (r.is ∙ sym m.2) in
            absurd (omega (arith, e.1, r.after)),
      )

  is_subject : (x : List ℕ) → Contains (subjects_of (denoted_by g)) x
      → (Contains (objects_of (denoted_by g)) x → ⊥) → Contains g.dictionary.subjects x
  is_subject x subject alone =
      let n = numbered g h Subject x subject in
      let range = used_range g h Subject n.0 n.1 in
      let o = length-append g.dictionary.shared g.dictionary.objects in
      elim (side g.dictionary.shared g.dictionary.subjects n.0 range.0 range.1) [
        | inl one ↦ absurd (alone (named g h Object x n.0 (tight Object n.0 range.0 (omega (arith, one.0, o)))
            (sym (at_shared g h n.0 range.0 one.0) ∙ n.2)))
        | inr two ↦ subst (Contains g.dictionary.subjects) n.2 two
      ]

  object_is : (x : List ℕ) → Contains g.dictionary.objects x → Contains (objects_of (denoted_by g)) x
      × (Contains (subjects_of (denoted_by g)) x → ⊥)
  object_is x there =
      let r = in_second g.dictionary.shared g.dictionary.objects x there in
      let used = tight Object r.id (omega (arith, r.after)) r.within in (
        named g h Object x r.id used r.is,
        λ other. let n = numbered g h Subject x other in
            let e = meet g h n.0 r.id n.1 used (n.2 ∙ sym r.is) in
            absurd (omega (arith, e.0, e.1, r.after)),
      )

  is_object : (x : List ℕ) → Contains (objects_of (denoted_by g)) x
      → (Contains (subjects_of (denoted_by g)) x → ⊥) → Contains g.dictionary.objects x
  is_object x object alone =
      let m = numbered g h Object x object in
      let range = used_range g h Object m.0 m.1 in
      let s = length-append g.dictionary.shared g.dictionary.subjects in
      elim (side g.dictionary.shared g.dictionary.objects m.0 range.0 range.1) [
        | inl one ↦ absurd (alone (named g h Subject x m.0 (tight Subject m.0 range.0 (omega (arith, one.0, s)))
            (at_shared g h m.0 range.0 one.0 ∙ m.2)))
        | inr two ↦ subst (Contains g.dictionary.objects) m.2 two
      ]

  predicate_is : (x : List ℕ) → Contains g.dictionary.predicates x → Contains (predicates_of (denoted_by g)) x
  predicate_is x there =
      let r = in_list g.dictionary.predicates x there in
      named g h Predicate x r.id (tight Predicate r.id r.after r.within) r.is

  is_predicate : (x : List ℕ) → Contains (predicates_of (denoted_by g)) x → Contains g.dictionary.predicates x
  is_predicate x there =
      let n = numbered g h Predicate x there in
      let range = used_range g h Predicate n.0 n.1 in
      subst (Contains g.dictionary.predicates) n.2 (term_in g.dictionary.predicates n.0 range.0 range.1)

  tight_split : IsSplit (subjects_of (denoted_by g)) (predicates_of (denoted_by g)) (objects_of (denoted_by g))
      g.dictionary
  tight_split = record {
    shared_ascend = h.shared.ascend;
    subjects_ascend = h.subjects.ascend;
    predicates_ascend = h.predicates.ascend;
    objects_ascend = h.objects.ascend;
    shared = λ x. (shared_is x, λ both. is_shared x both.0 both.1);
    subjects = λ x. (subject_is x, λ own. is_subject x own.0 own.1);
    predicates = λ x. (predicate_is x, is_predicate x);
    objects = λ x. (object_is x, λ own. is_object x own.0 own.1);
  }

  tight_form : IsEncodedGraph (denoted_by g) g.dictionary g.triples
  tight_form =
      encoded_form g.dictionary g.triples (λ (t : Triple). t) (denoted_triple g) (λ t there.
      let s = used_range g h Subject t.0 (Contains-map (role_component Subject) g.triples t there) in
      let p = used_range g h Predicate t.1 (Contains-map (role_component Predicate) g.triples t there) in
      let o = used_range g h Object t.2 (Contains-map (role_component Object) g.triples t there) in (
        record { from_one = s.0; within = s.1; is = refl },
        record { from_one = p.0; within = p.1; is = refl },
        record { from_one = o.0; within = o.1; is = refl },
      )) tight_split g.triples h.ascend
      (subst (SameMembers g.triples) (sym (map-id g.triples)) (λ x. (λ a. a, λ a. a)))

-- ---- canonical files

-- a tight file that its own dictionary and triples are encoded as
pub record IsOwnForm (b : ℕ) (bytes : List ℕ) (g : GraphParts) : Type 0 where
  pub tight : IsTightLayout bytes g
  pub same : bytes ≡ canonical_file g.header b g.dictionary g.triples

pub own_form_rewritten : (b : ℕ) (bytes : List ℕ) (g : GraphParts) → IsBlockSize b → IsGraph g → IsOwnForm b bytes g
    → IsRewrittenAs b bytes
own_form_rewritten b bytes g size h own = record {
  size = size;
  graph = g;
  encoded = own.tight.layout;
  report = report_of g.dictionary g.triples bytes;
  rewritten = made_of (denoted_by g) g.dictionary g.triples g.header b bytes (report_of g.dictionary g.triples bytes)
      (some_denoted g h) (form_sections _ _ _ (tight_form g h own.tight.tight) (denoted_texts g h))
      (tight_form g h own.tight.tight) own.same refl;
}

-- a file has fewer than 2 ^ 64 triples
few_triples : (bytes : List ℕ) (g : GraphParts) → IsLayout bytes g → length g.triples < 2 ^ 64
few_triples bytes g h =
    let same : triples_of h.file.triples ≡ g.triples = ap (λ (k : GraphParts). k.triples) h.denotes in
    let kept = ap (λ (f : BitmapTriples). length f.array_z) h.encoded.lists in
    let many = h.encoded.triples.array_z.spelled.spelled.2.count_fits in
    omega (arith, many, kept, length-triples h.file.triples, ap (λ (ts : List Triple). length ts) same)

-- a canonical file has the triples of the graph, each once
few_canonical : (b : ℕ) (bytes : List ℕ) (h : IsRewrittenAs b bytes) → length h.rewritten.file.triples < 2 ^ 64
few_canonical b bytes h =
    let g = h.graph in
    let file = h.rewritten.file in
    let strings = string_triple file.dictionary in
    let most = at_most (map strings file.triples) (denoted_by g)
    (record { apart = λ i j x lt below. once file.dictionary file.triples file.form i j x lt below })
    (λ x there. (file.form.denotes x).0 there) in
    omega (
      arith,
      most,
      length-map file.triples strings,
      length-map g.triples (denoted_triple g),
      few_triples bytes g h.encoded,
    )

pub rewritten_own_form : (b : ℕ) (bytes : List ℕ) → length bytes < 2 ^ 64 → IsRewrittenAs b bytes
    → (g : GraphParts) × IsOwnForm b bytes g
rewritten_own_form b bytes small h =
    let file = h.rewritten.file in (
      graph_parts_of h.graph.header file.dictionary file.triples,
      record {
        tight = record {
          layout = file_layout h.graph.header (denoted_by h.graph) b bytes file h.size.0
              (omega (arith, h.size.1)) small (few_canonical b bytes h);
          tight = file_tight h.graph.header (denoted_by h.graph) b bytes file;
        };
        same = file.bytes_are;
      },
    )

-- ---- what comparing decides

graph_is : (a b : GraphParts) → (let r : Result GraphParts Fault = Ok a in r) ≡ Ok b → a ≡ b
graph_is a b e = cc

module _ (b : ℕ) (bytes : List ℕ) where
  -- the graph of a file is encoded as other bytes
  pub other_encoding : (g : GraphParts) → length bytes < 2 ^ 64
      → ((other : GraphParts) → IsLayout bytes other → (let r : Result GraphParts Fault = Ok other in r) ≡ Ok g)
      → (own : Bool) → own ≡ false → (IsTrue own ↔ (bytes ≡ canonical_file g.header b g.dictionary g.triples))
      → IsTrue false ↔ IsRewrittenAs b bytes
  other_encoding g small only own differs k = (
    λ t. absurd cc,
    λ w. let r = rewritten_own_form b bytes small w in
        let t = k.1 (subst (λ (o : GraphParts). bytes ≡ canonical_file o.header b o.dictionary o.triples)
        (graph_is r.0 g (only r.0 r.1.tight.layout)) r.1.same) in absurd cc,
  )

  -- the graph of a file is encoded as these bytes
  pub decided : (g : GraphParts) → length bytes < 2 ^ 64 → IsBlockSize b → IsGraph g
      → ((other : GraphParts) → IsLayout bytes other → (let r : Result GraphParts Fault = Ok other in r) ≡ Ok g)
      → bytes ≡ canonical_file g.header b g.dictionary g.triples
      → (tight : Bool) → (IsTrue tight ↔ ((h : GraphParts) × IsTightLayout bytes h))
      → IsTrue tight ↔ IsRewrittenAs b bytes
  decided g small size graph only same tight k = (
    λ t. let h = k.0 t in own_form_rewritten b bytes g size graph (record {
      tight = subst (IsTightLayout bytes) (graph_is h.0 g (only h.0 h.1.layout)) h.1;
      same = same;
    }),
    λ w. let r = rewritten_own_form b bytes small w in k.1 (r.0, r.1.tight),
  )

  -- no block size
  pub bad_size : (IsBlockSize b → ⊥) → IsTrue false ↔ IsRewrittenAs b bytes
  bad_size bad = (λ t. absurd cc, λ h. absurd (bad h.size))

  -- no file
  pub no_file : ((g : GraphParts) → IsLayout bytes g → ⊥) → IsTrue false ↔ IsRewrittenAs b bytes
  no_file none = (λ t. absurd cc, λ h. absurd (none h.graph h.encoded))

-- bytes that are not read are no such file
pub none_read : {V : Type 0} (view : V → GraphParts) (g : GraphParts) (opened : Result V OpenFault) (e : OpenFault)
    (fault : Fault) → opened ≡ Err e → e ≡ opening.Fault fault
    → ReadsUnlessOom open_fault_of view opened (Ok g) → ⊥
none_read view g opened e fault failed is only =
    let k = subst (λ r. ReadsUnlessOom open_fault_of view r (Ok g)) (failed ∙ ap Err is) only in absurd cc

pub same_file : (x header : List ℕ) (b : ℕ) (g h : GraphParts) (r : Result Bool AllocError) → g ≡ h
    → header ≡ h.header
    → IfOk r (λ same. IsTrue same ↔ (x ≡ canonical_file header b g.dictionary g.triples))
    → IfOk r (λ same. IsTrue same ↔ (x ≡ canonical_file h.header b h.dictionary h.triples))
same_file x header b g h r is head k =
    IfOk-weaker r _ _ (λ same l. subst (λ (y : List ℕ). IsTrue same ↔ (x ≡ y))
    (ap (λ (hd : List ℕ). canonical_file hd b g.dictionary g.triples) head
    ∙ ap (λ (o : GraphParts). canonical_file h.header b o.dictionary o.triples) is) l) k

head_is : (a b : HeadParts) → (let r : Result HeadParts Fault = Ok a in r) ≡ Ok b → a ≡ b
head_is a b e = cc

-- the header body that was read is that of the graph
pub header_is : (bytes header : List ℕ) (head : HeadParts) (g : GraphParts) → IsLayout bytes g → header ≡ head.body
    → ((h : HeadParts) → IsHead h bytes → (let r : Result HeadParts Fault = Ok h in r) ≡ Ok head) → header ≡ g.header
header_is bytes header head g layout is only =
    let file = layout.file in
    is ∙ ap (λ (h : HeadParts). h.body) (sym (head_is file.head head (only file.head layout.encoded.head)))
    ∙ ap (λ (o : GraphParts). o.header) layout.denotes

-- a file has a head
pub some_head : (bytes : List ℕ) (g : GraphParts) (fault : Fault) → IsLayout bytes g
    → ((h : HeadParts) → IsHead h bytes → (let r : Result HeadParts Fault = Ok h in r) ≡ Err fault) → ⊥
some_head bytes g fault layout none = let e = none layout.file.head layout.encoded.head in absurd cc
