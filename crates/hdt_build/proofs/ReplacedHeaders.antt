-- A file with a new header is a valid file of the same graph.
use Rattle.std.proofs.Common.{◌≡◌, ℕ, ◌+◌, ◌-◌, ◌<◌, ◌≤◌, ◌^◌, List, [], ◌++◌, length, take, drop, refl, sym, ap, subst}
use Rattle.std.proofs.Common.{◌∙◌, arith, length-drop, append-nil}
use Rattle.std.proofs.lemmas.List.{take_all}
use Rattle.hdt_wire.specs.declared.control.Kind.TheVariants as kinds
use Rattle.hdt_wire.specs.Checks.{HasSlice}
use Rattle.hdt_wire.specs.Control.{control, expected_control_info}
use Rattle.hdt_wire.specs.Laws.Checks.{HasSlice-after, HasSlice-back, HasSlice-front}
use Rattle.hdt_dict.specs.Dictionary.{IsDictionaryAt, lists_of_dictionary}
use Rattle.hdt_file.specs.Head.{HeadParts, IsHead}
use Rattle.hdt_file.specs.File.{FileParts, GraphParts, IsFile, IsLayout, graph_of_file, role_counts}
use Rattle.hdt_build.specs.NewHeader.{ReplacesHeader, graph_with_header, new_control, with_length, with_new_header}
use Rattle.hdt_build.proofs.HeaderProperties.{new_length, new_no_zero}
use Rattle.hdt_build.proofs.MovedParts as moving
use Rattle.hdt_build.proofs.MovedParts.{SameFrom, moved, moved_dictionary, moved_triples}

whole : (text : List ℕ) → HasSlice text 0 text (0 + length text)
whole text = subst (λ (l : List ℕ). HasSlice l 0 text (0 + length text)) (append-nil text) (HasSlice-after [] text [])

module _ (body bytes : List ℕ) (file : FileParts) (is : IsFile file bytes) (small : length body < 2 ^ 64) where
  -- the offset of the header, its control information, and the offset after the body
  abbrev at : ℕ
  at = file.head.global.end

  abbrev info : List ℕ
  info = new_control file.head body

  abbrev end : ℕ
  end = at + length info + length body

  abbrev rest : List ℕ
  rest = drop file.head.end bytes

  front_is : take at bytes ≡ control kinds.Global file.head.global.properties
  front_is =
      let e : at - 0 ≡ at = omega arith in
      ap (λ (n : ℕ). take n bytes) (sym e) ∙ is.head.global.spelled.here

  front_len : 0 + length (take at bytes) ≡ at
  front_len = omega (arith, ap length front_is, is.head.global.spelled.end_is)

  -- the parts of the new bytes
  record Parts (new : List ℕ) : Type 0 where
    front : HasSlice new 0 (control kinds.Global file.head.global.properties) at
    header : HasSlice new at info (at + length info)
    body_is : HasSlice new (at + length info) body end
    rest_is : HasSlice new end rest (0 + length new)

  parts : Parts (with_new_header file.head body bytes)
  unfolding with_new_header
  parts =
      let front : List ℕ = take at bytes in
      let new : List ℕ = front ++ (info ++ (body ++ rest)) in
      let all = whole new in
      let first = HasSlice-front new 0 front (info ++ (body ++ rest)) (0 + length new) all in
      let behind = subst (λ (a : ℕ). HasSlice new a (info ++ (body ++ rest)) (0 + length new)) front_len
      (HasSlice-back new 0 front (info ++ (body ++ rest)) (0 + length new) all) in
      let more = HasSlice-back new at info (body ++ rest) (0 + length new) behind in
      record {
        front = subst (λ (t : List ℕ). HasSlice new 0 t at) front_is
            (subst (λ (e : ℕ). HasSlice new 0 front e) front_len first);
        header = HasSlice-front new at info (body ++ rest) (0 + length new) behind;
        body_is = HasSlice-front new (at + length info) body rest (0 + length new) more;
        rest_is = HasSlice-back new (at + length info) body rest (0 + length new) more;
      }

  same : (new : List ℕ) → Parts new → SameFrom bytes file.head.end new end
  same new h =
      let size : length (drop end new) ≤ (0 + length new) - end = omega (arith, length-drop end new) in
      record {
        old_has = is.head.body.within;
        new_has = h.body_is.within;
        rest = sym (sym (take_all ((0 + length new) - end) (drop end new) size) ∙ h.rest_is.here);
      }

  -- the contents of the new file
  abbrev new_head : HeadParts
  new_head = record {
    global = file.head.global;
    header = expected_control_info kinds.Header (with_length (length body) file.head.header.properties) at
        (at + length info);
    body = body;
    end = end;
  }

  abbrev new_file : FileParts
  new_file = record {
    head = new_head;
    dictionary = moved_dictionary file.head.end end file.dictionary;
    triples = file.triples;
    widths = file.widths;
  }

  head_stands : (new : List ℕ) → Parts new → IsHead new_head new
  head_stands new h = record {
    global = record {
      spelled = h.front;
      no_zero = is.head.global.no_zero;
      format = is.head.global.format;
      properties_at = is.head.global.properties_at;
    };
    header = record {
      spelled = h.header;
      no_zero = new_no_zero (length body) file.head.header.properties small is.head.header.no_zero;
      format = refl;
      properties_at = refl;
    };
    stated = new_length (length body) (length file.head.body) file.head.header.properties small is.head.stated;
    body = h.body_is;
  }

  file_stands : (new : List ℕ) → Parts new → IsFile new_file new
  file_stands new h =
      let k : ℕ = file.head.end in
      let s = same new h in
      let start : moved k end k ≡ end = omega arith in
      let after = moving.after_dictionary bytes k new end s file.dictionary k is.dictionary in
      let counts = role_counts (lists_of_dictionary file.dictionary) in
      let section = is.parts in
      let last = moving.after_triples bytes k new end s counts section file.dictionary.objects.end is.triples in
      let whole : moved k end section.array_z.end ≡ length new = omega (
        arith,
        is.end,
        moving.lens bytes k new end s,
        s.old_has,
        s.new_has,
        after,
        last,
      ) in
      record {
        head = head_stands new h;
        dictionary = subst (λ (a : ℕ). IsDictionaryAt (moved_dictionary k end file.dictionary) new a) start
            (moving.dictionary bytes k new end s file.dictionary k (omega arith) is.dictionary);
        parts = moved_triples k end section;
        triples = moving.triples bytes k new end s counts section file.dictionary.objects.end after is.triples;
        lists = is.lists;
        widths = is.widths;
        end = whole;
      }

  pub new_layout : IsLayout (with_new_header file.head body bytes) (graph_with_header (graph_of_file file) body)
  new_layout = record {
    file = new_file;
    encoded = file_stands (with_new_header file.head body bytes) parts;
    denotes = refl;
  }

-- A file with a new header is a file of the graph with this header.
pub replaced_layout : (body bytes made : List ℕ) (graph : GraphParts) → length body < 2 ^ 64
    → ReplacesHeader body bytes graph made → IsLayout made (graph_with_header graph body)
replaced_layout body bytes made graph small h =
    subst (λ (g : GraphParts). IsLayout made (graph_with_header g body)) h.layout.denotes
    (subst (λ (l : List ℕ). IsLayout l (graph_with_header (graph_of_file h.layout.file) body)) (sym h.made_is)
    (new_layout body bytes h.layout.file h.layout.encoded small))
