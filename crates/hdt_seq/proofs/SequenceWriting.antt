-- Sequences whose entries are written one after another.
use Rattle.std.proofs.Common.{◌≡◌, ◌∙◌, ℕ, zero, suc, ◌+◌, ◌*◌, ◌/◌, ◌%◌, ◌^◌, ◌<◌, List, [], ◌∷◌, ◌++◌, length, drop}
use Rattle.std.proofs.Common.{refl, ap, sym, arith, append_assoc, append-nil, length-append, min}
use Rattle.std.proofs.Math.Seq.{drop-append_seam}
use Rattle.std.proofs.lemmas.Nat.{pow_pos}
use Rattle.byteorder.specs.Endian.{little_bytes}
use Rattle.hdt_wire.specs.Crc.{crc8, crc32}
use Rattle.hdt_seq.specs.PackedBits.{EachFits, packed}
use Rattle.hdt_seq.specs.Sequence.{with_crcs}
use Rattle.hdt_seq.specs.Laws.Packing.{Packs, Packs-all, Packs-more}

pub none_fit : (width : ℕ) → EachFits width []
none_fit width i = pow_pos width

pub begun : (before bytes out : List ℕ) (width : ℕ) → out ≡ (before ++ bytes) ++ crc8 bytes ∷ []
    → Packs width [] 0 0 (before ++ (bytes ++ crc8 bytes ∷ [])) out
begun before bytes out width e =
    let none : width * 0 ≡ 0 = omega arith in
    record {
      filled_is = rw none refl;
      word_is = rw none refl;
      out_is = rw none (e ∙ append_assoc before bytes (crc8 bytes ∷ [])
          ∙ sym (append-nil (before ++ (bytes ++ crc8 bytes ∷ []))));
    }

pub more_fit : (width : ℕ) (xs : List ℕ) (x : ℕ) → EachFits width xs → x < 2 ^ width → EachFits width (xs ++ x ∷ [])
more_fit width [] x fits lt zero = lt
more_fit width [] x fits lt (suc i) = pow_pos width
more_fit width (y ∷ ys) x fits lt zero = fits 0
more_fit width (y ∷ ys) x fits lt (suc i) = more_fit width ys x (λ k. fits (suc k)) lt i

pub pushed : (before head xs out new : List ℕ) (width word filled word2 filled2 x w y : ℕ) → w ≡ width → y ≡ x
    → Packs width xs word filled (before ++ (head ++ crc8 head ∷ [])) out
    → word2 ≡ (word + y * 2 ^ filled) / 2 ^ (8 * (8 * ((filled + w) / 64))) → filled2 ≡ (filled + w) % 64
    → new ≡ out ++ little_bytes (8 * ((filled + w) / 64)) (word + y * 2 ^ filled)
    → Packs width (xs ++ x ∷ []) word2 filled2 (before ++ (head ++ crc8 head ∷ [])) new
pushed before head xs out new width word filled word2 filled2 x w y wide is h e1 e2 e3 =
    rw (e1, e2, e3, wide, is) (Packs-more width xs word filled (before ++ (head ++ crc8 head ∷ [])) out x h)

pub finished : (before head xs out out1 out2 : List ℕ) (width word filled k start s n : ℕ)
    → Packs width xs word filled (before ++ (head ++ crc8 head ∷ [])) out
    → out1 ≡ out ++ little_bytes k word → k ≡ (filled + 7) / 8 → start ≡ length (before ++ (head ++ crc8 head ∷ []))
    → s ≡ min start n → n ≡ length out1 → out2 ≡ out1 ++ little_bytes 4 (crc32 (drop s out1))
    → out2 ≡ before ++ with_crcs head (packed width xs)
finished before head xs out out1 out2 width word filled k start s n h e1 e2 at least len e4 =
    let b : List ℕ = before ++ (head ++ crc8 head ∷ []) in
    let p : List ℕ = packed width xs in
    let all : out1 ≡ b ++ p = e1 ∙ ap (λ (n : ℕ). out ++ little_bytes n word) e2
    ∙ Packs-all width xs word filled b out h in
    let is : s ≡ length b = omega (arith, at, least, len, ap length all, length-append b p) in
    let rest : drop s out1 ≡ p = ap (λ (n : ℕ). drop n out1) is ∙ ap (drop (length b)) all ∙ drop-append_seam b p in
    let code : List ℕ = little_bytes 4 (crc32 p) in
    e4 ∙ ap (λ (l : List ℕ). out1 ++ little_bytes 4 (crc32 l)) rest ∙ ap (λ (l : List ℕ). l ++ code) all
    ∙ append_assoc b p code ∙ append_assoc before (head ++ crc8 head ∷ []) (p ++ code)
    ∙ ap (λ (l : List ℕ). before ++ l) (append_assoc head (crc8 head ∷ []) (p ++ code))
