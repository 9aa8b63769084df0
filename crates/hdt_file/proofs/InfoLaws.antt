-- The sizes of a file's parts.
use Rattle.std.proofs.Common.{◌≡◌, ℕ, ◌+◌, ◌*◌, ◌<◌, ◌≤◌, ◌^◌, List, [], ◌∷◌, length, Result, Ok, Err, refl, sym, ap}
use Rattle.std.proofs.Common.{◌∙◌, arith}
use Rattle.hdt_wire.specs.declared.fault.Fault.{Fault}
use Rattle.hdt_wire.specs.declared.control.Kind.TheVariants as kinds
use Rattle.std.specs.Prelude.{IfErr, IfOk, IfSome}
use Rattle.hdt_wire.specs.Checks.{IsBytes, ReadsUnlessOom}
use Rattle.hdt_wire.specs.Control.{ControlInfo, control_at}
use Rattle.hdt_wire.specs.Laws.Exact.{done, ok_is}
use Rattle.hdt_wire.specs.Laws.ExactPrimitives.{control_exact}
use Rattle.hdt_front.specs.declared.section.Section.{Section}
use Rattle.hdt_front.specs.Iteration.{LocatedString, IterState, strings, step_iter, step_iter_by}
use Rattle.hdt_front.specs.SectionIteration.{located_strings}
use Rattle.hdt_front.specs.Laws.Iteration.{located_are_strings}
use Rattle.hdt_front.specs.Strings.{strings_of}
use Rattle.hdt_file.specs.Faults.{open_fault_of}
use Rattle.hdt_file.specs.declared.fault.OpenFault.{OpenFault}
use Rattle.hdt_file.specs.declared.fault.OpenFault.TheVariants as opens
use Rattle.hdt_file.specs.declared.info.FileInfo.{FileInfo}
use Rattle.hdt_file.specs.File.{FileParts, IsFile, IsLayout, decode_file, decode_graph, graph_of_file}
use Rattle.hdt_file.specs.Info.{IsFileInfo, file_info, total_len}
use Rattle.hdt_file.proofs.FileLaws.{file_exact, file_unique, layout_exact}

-- ---- the lengths of the strings of a section

-- the lengths that were summed, and those of the strings ahead, are those of all strings
pub record IsSummed (s : Section) (w : IterState) (total i : ℕ) : Type 0 where
  pub all : total + total_len (strings w.ahead) ≡ total_len (strings_of s)
  pub ahead : length (strings w.ahead) + i ≡ length (strings_of s)
  pub small : total ≤ i * 2 ^ 63

pub none_summed : (s : Section) (w : IterState) → w ≡ record { last = []; ahead = located_strings s } → IsSummed s w 0 0
none_summed s w e =
    let ahead : strings w.ahead ≡ strings_of s = ap (λ (v : IterState). strings v.ahead) e ∙ located_are_strings s in
    record {
      all = omega (arith, ap total_len ahead);
      ahead = omega (arith, ap length ahead);
      small = omega arith;
    }

one_more_by : (s : Section) (w v : IterState) (ps : List LocatedString) (total i : ℕ) → w.ahead ≡ ps
    → v ≡ step_iter_by w ps → length v.last < 2 ^ 63 → i < length (strings_of s)
    → IsSummed s w total i → IsSummed s v (total + length v.last) (i + 1)
unfolding total_len
one_more_by s w v [] total i same e short lt h =
    absurd (omega (arith, lt, h.ahead, ap (λ (l : List LocatedString). length (strings l)) same))
one_more_by s w v (p ∷ ps) total i same e short lt h =
    let last : length v.last ≡ length p.string = ap (λ (v : IterState). length v.last) e in
    let ahead : v.ahead ≡ ps = ap (λ (v : IterState). v.ahead) e in
    let here : total_len (strings w.ahead) ≡ length p.string + total_len (strings ps) =
    ap (λ (l : List LocatedString). total_len (strings l)) same in
    let there : total_len (strings v.ahead) ≡ total_len (strings ps) =
    ap (λ (l : List LocatedString). total_len (strings l)) ahead in
    record {
      all = omega (arith, h.all, here, there, last);
      ahead = omega (
        arith,
        h.ahead,
        ap (λ (l : List LocatedString). length (strings l)) same,
        ap (λ (l : List LocatedString). length (strings l)) ahead,
      );
      small = omega (arith, h.small, short);
    }

-- one more string is summed
pub one_more : (s : Section) (w v : IterState) (total i : ℕ) → v ≡ step_iter w → length v.last < 2 ^ 63
    → i < length (strings_of s) → IsSummed s w total i → IsSummed s v (total + length v.last) (i + 1)
one_more s w v total i e short lt h = one_more_by s w v w.ahead total i refl e short lt h

none_left : (ps : List LocatedString) → length (strings ps) ≡ 0 → total_len (strings ps) ≡ 0
unfolding total_len
none_left [] e = refl
none_left (p ∷ ps) e = absurd (omega (arith, e))

-- all strings are summed
pub all_summed : (s : Section) (w : IterState) (total i : ℕ) → length (strings_of s) ≤ i → IsSummed s w total i
    → total ≡ total_len (strings_of s)
all_summed s w total i le h = omega (arith, h.all, none_left w.ahead (omega (arith, h.ahead, le)))

-- ---- the file

-- where the control information of the dictionary ends
control_is : (file : FileParts) (bytes : List ℕ) → IsBytes bytes → (is : IsFile file bytes)
    → control_at kinds.Dictionary bytes file.head.end ≡ Ok is.dictionary.control
control_is file bytes fits is =
    (control_exact kinds.Dictionary bytes file.head.end fits).only is.dictionary.control is.dictionary.control_is

-- the bytes that a layout was read from have that control information
pub some_control : (file : FileParts) (bytes : List ℕ) (fault : Fault) → IsBytes bytes → length bytes < 2 ^ 64
    → decode_file bytes ≡ Ok file → control_at kinds.Dictionary bytes file.head.end ≡ Err fault → ⊥
some_control file bytes fault fits small read e =
    let k = control_is file bytes fits ((file_exact bytes fits small).found file read) in absurd cc

-- the sizes of a layout are those of the file that it was read from
pub info_found : (file : FileParts) (bytes : List ℕ) (control : ControlInfo) (info : FileInfo) → IsBytes bytes
    → length bytes < 2 ^ 64 → decode_file bytes ≡ Ok file
    → control_at kinds.Dictionary bytes file.head.end ≡ Ok control
    → info ≡ file_info (length bytes) file control.end → IsFileInfo info bytes
info_found file bytes control info fits small read e sizes =
    let is = (file_exact bytes fits small).found file read in
    let same = ok_is control is.dictionary.control (sym e ∙ control_is file bytes fits is) in
    record {
      file = file;
      encoded = is;
      info_is = sizes ∙ ap (λ (c : ControlInfo). file_info (length bytes) file c.end) same;
    }

-- a file has one list of sizes
pub one_info : (bytes : List ℕ) (a b : FileInfo) → IsBytes bytes → length bytes < 2 ^ 64 → IsFileInfo a bytes
    → IsFileInfo b bytes → a ≡ b
one_info bytes a b fits small p q =
    let files = file_unique bytes p.file q.file fits small p.encoded q.encoded in
    let there = ap (λ (f : FileParts). control_at kinds.Dictionary bytes f.head.end) files in
    let controls = ok_is p.encoded.dictionary.control q.encoded.dictionary.control
    (sym (control_is p.file bytes fits p.encoded) ∙ there ∙ control_is q.file bytes fits q.encoded) in
    p.info_is
    ∙ ap (λ (f : FileParts). file_info (length bytes) f p.encoded.dictionary.control.end) files
    ∙ ap (λ (c : ControlInfo). file_info (length bytes) q.file c.end) controls
    ∙ sym q.info_is

-- a result that is the sizes of the file or its error is that of any file that the bytes encode
pub info_only : (bytes : List ℕ) (r : Result FileInfo OpenFault) → IsBytes bytes → length bytes < 2 ^ 64
    → IfOk r (λ i. IsFileInfo i bytes)
    → IfErr r (λ e. IfSome (open_fault_of e) (λ fault. decode_graph bytes ≡ Err fault)) → (info : FileInfo)
    → IsFileInfo info bytes → ReadsUnlessOom open_fault_of (λ (x : FileInfo). x) r (Ok info)
info_only bytes (Ok i) fits small found err info h =
    ap (λ (x : FileInfo). done x) (one_info bytes info i fits small h found)
info_only bytes (Err (opens.Fault fault)) fits small found err info h =
    let graph = graph_of_file h.file in
    let layout : IsLayout bytes graph = record { file = h.file; encoded = h.encoded; denotes = refl } in
    let k = sym ((layout_exact bytes fits small).only graph layout) ∙ err in absurd cc
info_only bytes (Err opens.OutOfMemory) fits small found err info h = tt
