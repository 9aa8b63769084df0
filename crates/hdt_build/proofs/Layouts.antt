-- A canonical file is a valid file of its graph.
use Rattle.std.proofs.Common.{◌≡◌, ℕ, ◌+◌, ◌^◌, ◌<◌, ◌≤◌, List, [], ◌++◌, length, refl, sym, ap, subst, ◌∙◌, arith}
use Rattle.std.proofs.Common.{length-append, append-nil}
use Rattle.hdt_wire.specs.declared.control.Kind.TheVariants as kinds
use Rattle.hdt_wire.specs.Control.{control, expected_control_info}
use Rattle.hdt_wire.specs.Checks.{HasSlice}
use Rattle.hdt_wire.specs.Laws.Checks.{HasSlice-after, HasSlice-front, HasSlice-back}
use Rattle.hdt_seq.specs.Bits.{bits_encoding}
use Rattle.hdt_seq.specs.Numbers.{numbers_encoding}
use Rattle.hdt_front.specs.Canonical.{canonical, canonical_parts}
use Rattle.hdt_dict.specs.Dictionary.{SectionLists, lists_of_dictionary}
use Rattle.hdt_dict.specs.Writing.{AreSections, mapping, canonical_dictionary, canonical_dictionary_parts}
use Rattle.hdt_dict.specs.Laws.Writing.{dictionary_encoded}
use Rattle.hdt_triples.specs.TripleSequences.{Triple, BitmapTriples}
use Rattle.hdt_triples.specs.Order.{AreAtMostCounts, CountsFit64}
use Rattle.hdt_triples.specs.Writing.{order_property, sequences_of, canonical_sequences, sequences_parts}
use Rattle.hdt_triples.specs.Writing.{canonical_triples, canonical_triples_parts}
use Rattle.hdt_triples.specs.Laws.Writing.{triples_stand, triples_are}
use Rattle.hdt_file.specs.File.{FileParts, GraphParts, IsFile, IsLayout, graph_of_file, role_counts}
use Rattle.hdt_file.specs.Tight.{IsTight}
use Rattle.hdt_triples.specs.Triples.{IsTriplesAt, bitmap_triples}
use Rattle.hdt_build.specs.Canonical.{canonical_head, canonical_file, IsCanonical}
use Rattle.hdt_file.specs.Denoted.{StringTriple}
use Rattle.hdt_build.specs.Graph.{IsEncodedGraph}
use Rattle.hdt_build.specs.Header.{length_property}
use Rattle.hdt_build.specs.Layouts.{graph_parts_of, IsLayoutOf}
use Rattle.hdt_build.proofs.Counts.{dictionary_bytes}
use Rattle.hdt_build.proofs.Denoting.{form_tight, some_triple, writable, once}
use Rattle.hdt_build.proofs.Heads.{length_no_zero, states_length}

-- the end of a dictionary
dictionary_end : (b : ℕ) (d : SectionLists) (at : ℕ)
    → (canonical_dictionary_parts b d at).objects.end ≡ at + length (canonical_dictionary b d)
unfolding canonical_dictionary canonical_dictionary_parts canonical_parts
dictionary_end b d at =
    let block : List ℕ = control kinds.Dictionary mapping in
    let s : List ℕ = canonical b d.shared in
    let u : List ℕ = canonical b d.subjects in
    let p : List ℕ = canonical b d.predicates in
    let o : List ℕ = canonical b d.objects in
    omega (
      arith,
      length-append block (s ++ (u ++ (p ++ o))),
      length-append s (u ++ (p ++ o)),
      length-append u (p ++ o),
      length-append p o,
    )

-- the end of the triples
triples_end : (f : BitmapTriples) (at : ℕ) → (sequences_parts f at).array_z.end ≡ at + length (canonical_sequences f)
unfolding canonical_sequences sequences_parts
triples_end f at =
    let block : List ℕ = control kinds.Triples order_property in
    let my : List ℕ = bits_encoding f.bitmap_y in
    let mz : List ℕ = bits_encoding f.bitmap_z in
    let ys : List ℕ = numbers_encoding f.array_y in
    let zs : List ℕ = numbers_encoding f.array_z in
    omega (
      arith,
      length-append block (my ++ (mz ++ (ys ++ zs))),
      length-append my (mz ++ (ys ++ zs)),
      length-append mz (ys ++ zs),
      length-append ys zs,
    )

-- the counts of a canonical dictionary
counts_are : (b : ℕ) (d : SectionLists) (at : ℕ)
    → role_counts (lists_of_dictionary (canonical_dictionary_parts b d at)) ≡ role_counts d
unfolding canonical_dictionary_parts canonical_parts
counts_are b d at = refl

all_of : (text : List ℕ) → HasSlice text 0 text (0 + length text)
all_of text = subst (λ (l : List ℕ). HasSlice l 0 text (0 + length text)) (append-nil text) (HasSlice-after [] text [])

-- the contents of a canonical file
unfoldable file_of : (header : List ℕ) (b : ℕ) (d : SectionLists) (ts : List Triple) → FileParts
file_of header b d ts =
    let g : ℕ = 0 + length (control kinds.Global []) in
    let at : ℕ = 0 + length (canonical_head header) in
    let section = canonical_triples_parts ts (canonical_dictionary_parts b d at).objects.end in
    record {
      head = record {
        global = expected_control_info kinds.Global [] 0 g;
        header = expected_control_info kinds.Header (length_property (length header)) g
            (g + length (control kinds.Header (length_property (length header))));
        body = header;
        end = at;
      };
      dictionary = canonical_dictionary_parts b d at;
      triples = bitmap_triples section;
      widths = (section.array_y.offsets.width, section.array_z.offsets.width);
    }

module _ (header : List ℕ) (graph : List StringTriple) (b : ℕ) (d : SectionLists) (ts : List Triple)
    (form : IsEncodedGraph graph d ts) (some : 0 < length graph) where
  within : AreAtMostCounts (role_counts d) ts
  within = λ i lt. let r = form.in_range i (0, 0, 0) lt in (r.0.1, r.1.1, r.2.1)

  few : (bytes : List ℕ) (at end : ℕ) → length bytes < 2 ^ 64 → HasSlice bytes at (canonical_dictionary b d) end
      → CountsFit64 (role_counts d)
  few bytes at end small h =
      let enough = dictionary_bytes b d in
      let size = length-append d.shared d.objects in
      (omega (arith, enough, h.end_is, h.within, small), omega (arith, enough, size, h.end_is, h.within, small))

  file_stands : (bytes : List ℕ) (end : ℕ) → AreSections d → 1 ≤ b → b < 2 ^ 64 → length bytes < 2 ^ 64
      → length ts < 2 ^ 64 → end ≡ length bytes
      → HasSlice bytes 0 (canonical_file header b d ts) end → IsFile (file_of header b d ts) bytes
  unfolding file_of canonical_file canonical_head
  file_stands bytes end sections from low small many whole h =
      let G : List ℕ = control kinds.Global [] in
      let H : List ℕ = control kinds.Header (length_property (length header)) in
      let D : List ℕ = canonical_dictionary b d in
      let T : List ℕ = canonical_triples ts in
      let at : ℕ = 0 + length (G ++ (H ++ header)) in
      let front = HasSlice-front bytes 0 (G ++ (H ++ header)) (D ++ T) end h in
      let behind = HasSlice-back bytes 0 (G ++ (H ++ header)) (D ++ T) end h in
      let blocks = HasSlice-back bytes 0 G (H ++ header) at front in
      let body = HasSlice-back bytes (0 + length G) H header at blocks in
      let dict = HasSlice-front bytes at D T end behind in
      let last = HasSlice-back bytes at D T end behind in
      let place = dictionary_end b d at in
      let section = canonical_triples_parts ts (canonical_dictionary_parts b d at).objects.end in
      let short : length header < 2 ^ 64 = omega (arith, body.end_is, body.within, small) in
      record {
        head = record {
          global = record {
            spelled = HasSlice-front bytes 0 G (H ++ header) at front;
            no_zero =
                λ k x lt. absurd (omega arith);
            format = refl;
            properties_at = refl;
          };
          header = record {
            spelled = HasSlice-front bytes (0 + length G) H header at blocks;
            no_zero =
                length_no_zero (length header) short;
            format = refl;
            properties_at = refl;
          };
          stated = states_length (length header) short;
          body = body;
        };
        dictionary = dictionary_encoded b d bytes at (at + length D) from low sections small dict;
        parts = section;
        triples =
            subst (λ counts. IsTriplesAt counts section bytes (canonical_dictionary_parts b d at).objects.end)
            (sym (counts_are b d at))
            (triples_stand ts (role_counts d) bytes (canonical_dictionary_parts b d at).objects.end end
            (writable d ts form (some_triple graph d ts form some)) within
            (few bytes at (at + length D) small dict) many
            (subst (λ (a : ℕ). HasSlice bytes a T end) (sym place) last));
        lists = refl;
        widths = refl;
        end = triples_end (sequences_of ts) (canonical_dictionary_parts b d at).objects.end
            ∙ ap (λ (a : ℕ). a + length T) place ∙ sym last.end_is ∙ whole;
      }

  file_graph : graph_of_file (file_of header b d ts) ≡ graph_parts_of header d ts
  unfolding file_of canonical_dictionary_parts canonical_parts sequences_parts
  file_graph = ap (λ (l : List Triple). graph_parts_of header d l)
      (triples_are ts (writable d ts form (some_triple graph d ts form some)))

  pub layout : AreSections d → 1 ≤ b → b < 2 ^ 64 → length (canonical_file header b d ts) < 2 ^ 64 → length ts < 2 ^ 64
      → IsLayout (canonical_file header b d ts) (graph_parts_of header d ts)
  layout sections from low small many = record {
    file = file_of header b d ts;
    encoded = file_stands (canonical_file header b d ts) (0 + length (canonical_file header b d ts)) sections from low
        small many (omega arith) (all_of (canonical_file header b d ts));
    denotes = file_graph;
  }

module _ (header : List ℕ) (graph : List StringTriple) (b : ℕ) (bytes : List ℕ)
    (file : IsCanonical header graph b bytes) where
  abbrev pub decode_parts : GraphParts
  decode_parts = graph_parts_of header file.dictionary file.triples

  pub file_layout : 1 ≤ b → b < 2 ^ 64 → length bytes < 2 ^ 64 → length file.triples < 2 ^ 64
      → IsLayout bytes decode_parts
  file_layout from low small many =
      subst (λ (l : List ℕ). IsLayout l decode_parts) (sym file.bytes_are)
      (layout header graph b file.dictionary file.triples file.form file.some file.sections from low
      (subst (λ (l : List ℕ). length l < 2 ^ 64) file.bytes_are small) many)

  pub file_tight : IsTight decode_parts
  file_tight = form_tight file.dictionary file.triples file.form header

  pub canonical_layout : 1 ≤ b → b < 2 ^ 64 → length bytes < 2 ^ 64 → length file.triples < 2 ^ 64
      → IsLayoutOf header graph bytes
  canonical_layout from low small many = record {
    parts = decode_parts;
    layout = file_layout from low small many;
    header_is = refl;
    tight = file_tight;
    exactly = file.form.denotes;
    once = once file.dictionary file.triples file.form;
  }
