use Rattle.std.proofs.Common.{◌≡◌, ◌<◌, ◌+◌, ◌*◌, ◌/◌, ◌%◌, ◌++◌, [], arith, ap, ◌∙◌, length, nat_eq, append_assoc}
use Rattle.std.proofs.Common.{take, length-append, refl}
use Rattle.std.proofs.lemmas.Nat.{div-add-mod'}
use Rattle.std.proofs.Math.Nat.{mod-lt}
use Rattle.hdt_front.specs.Strings.{strings_of}
use Rattle.hdt_front.specs.PackedView.{block_layout}
use Rattle.hdt_front.specs.Inside.PartialStrings.{partial_string}
use Rattle.hdt_front.specs.Decoding.{after_entry, stored_prefix_len, bytes_from_suffix, suffix_of}
use Rattle.hdt_front.specs.Laws.StringSteps.{length-decoded_strings}
use Rattle.hdt_front.proofs.DecodingLemmas.{unfolds_here, string_complete, append_over_prefix}
use Rattle.hdt_front.proofs.string.append_string.Goals as goal

pub nonzero_rem-many : goal.nonzero_rem-many
unfolding strings_of
nonzero_rem-many c =
    let p = c.args.section.now.packed in
    omega (arith, p.some (omega (arith, c.requires, length-decoded_strings p.block_size p.count 0 [] p.bytes.now)))

pub overflow_add-many : goal.overflow_add-many
unfolding strings_of
overflow_add-many c =
    let p = c.args.section.now.packed in
    omega (
      arith,
      mod-lt c.args.i
          (p.some (omega (arith, c.requires, length-decoded_strings p.block_size p.count 0 [] p.bytes.now))),
    )

pub decode_in_buffer-done-requires-clause-short : goal.decode_in_buffer-done-requires-clause-short
unfolding strings_of
decode_in_buffer-done-requires-clause-short c =
    let p = c.args.section.now.packed in
    omega (
      arith,
      mod-lt c.args.i
          (p.some (omega (arith, c.requires, length-decoded_strings p.block_size p.count 0 [] p.bytes.now))),
    )

pub decode_in_buffer-done-requires-clause-within : goal.decode_in_buffer-done-requires-clause-within
unfolding strings_of
decode_in_buffer-done-requires-clause-within c =
    let p = c.args.section.now.packed in
    omega (
      arith,
      c.requires,
      length-decoded_strings p.block_size p.count 0 [] p.bytes.now,
      div-add-mod' c.args.i p.block_size,
    )

pub returns-in_err-extend_from_slice-clause-cost : goal.returns-in_err-extend_from_slice-clause-cost
unfolding strings_of
returns-in_err-extend_from_slice-clause-cost c =
    let p = c.args.section.now.packed in
    omega (
      arith,
      c.decode_in_buffer-done.ensures.cost,
      c.decode_in_buffer-done.ensures.done.1,
      mod-lt c.args.i (p.some (omega (
        arith,
        c.requires,
        length-decoded_strings p.block_size p.count 0 [] p.bytes.now,
      ))),
    )

pub split_entry-requires : goal.split_entry-requires
unfolding bytes_from_suffix
split_entry-requires c = c.decode_in_buffer-done.ensures.decoded.ends

pub returns-in_err-extend_by-clause-cost : goal.returns-in_err-extend_by-clause-cost
unfolding strings_of
returns-in_err-extend_by-clause-cost c =
    let p = c.args.section.now.packed in
    omega (
      arith,
      c.decode_in_buffer-done.ensures.cost,
      c.decode_in_buffer-done.ensures.done.1,
      mod-lt c.args.i (p.some (omega (
        arith,
        c.requires,
        length-decoded_strings p.block_size p.count 0 [] p.bytes.now,
      ))),
    )

pub loop-k-init : goal.loop-k-init
unfolding suffix_of bytes_from_suffix after_entry
loop-k-init c =
    let u = c.decode_in_buffer-done.ensures in let old = c.args.out.now.items in
    record {
      out = c.in_ok-extend_by.ensures.ok
          ∙ ap (λ l. l ++ c.split_entry.result.1.now) c.in_ok-extend_from_slice.ensures.items
          ∙ append_assoc old _ c.split_entry.result.1.now
          ∙ ap (λ t. old ++ (take c.decode_in_buffer-done.result.1 c.decode_in_buffer-done.new.buffer ++ t))
          c.split_entry.ensures.text ∙ ap (λ l. old ++ l) u.decoded.string;
      rest = c.split_entry.ensures.rest ∙ u.decoded.after;
      cost = u.cost;
    }

pub decode_next-requires-clause-ends : goal.decode_next-requires-clause-ends
unfolding strings_of
decode_next-requires-clause-ends c =
    let p = c.args.section.now.packed in let l = c.loop-k in
    let inside : c.args.i < p.count =
    omega (arith, c.requires, length-decoded_strings p.block_size p.count 0 [] p.bytes.now) in
    let short : l.k < p.block_size =
    omega (arith, c.loop-k-test.true, mod-lt c.args.i (p.some (omega (arith, inside)))) in
    let here : c.args.i / p.block_size * p.block_size + l.k < p.count =
    omega (arith, c.loop-k-test.true, div-add-mod' c.args.i p.block_size, inside) in
    (unfolds_here (block_layout p) p.count
    (c.args.i / p.block_size) l.k p.bytes.now l.rest.now short here c.args.section.now.read l.invariant.rest).ends

pub decode_next-requires-clause-fits : goal.decode_next-requires-clause-fits
unfolding strings_of
decode_next-requires-clause-fits c =
    let p = c.args.section.now.packed in let l = c.loop-k in
    let inside : c.args.i < p.count =
    omega (arith, c.requires, length-decoded_strings p.block_size p.count 0 [] p.bytes.now) in
    let short : l.k < p.block_size =
    omega (arith, c.loop-k-test.true, mod-lt c.args.i (p.some (omega (arith, inside)))) in
    let here : c.args.i / p.block_size * p.block_size + l.k < p.count =
    omega (arith, c.loop-k-test.true, div-add-mod' c.args.i p.block_size, inside) in
    let u = unfolds_here (block_layout p) p.count
    (c.args.i / p.block_size) l.k p.bytes.now l.rest.now short here c.args.section.now.read l.invariant.rest in
    let size = ap length l.invariant.out
    ∙ length-append c.args.out.now.items (partial_string p.block_size (c.args.i / p.block_size) l.k p.bytes.now) in
    omega (arith, u.fits, size, l.out.ok.0, c.args.out.now.ok.0, c.len-start.ensures)

pub loop-k-preserved : goal.loop-k-preserved
unfolding strings_of
loop-k-preserved c =
    let p = c.args.section.now.packed in let l = c.loop-k in
    let inside : c.args.i < p.count =
    omega (arith, c.requires, length-decoded_strings p.block_size p.count 0 [] p.bytes.now) in
    let short : l.k < p.block_size =
    omega (arith, c.loop-k-test.true, mod-lt c.args.i (p.some (omega (arith, inside)))) in
    let here : c.args.i / p.block_size * p.block_size + l.k < p.count =
    omega (arith, c.loop-k-test.true, div-add-mod' c.args.i p.block_size, inside) in
    let u = unfolds_here (block_layout p) p.count
    (c.args.i / p.block_size) l.k p.bytes.now l.rest.now short here c.args.section.now.read l.invariant.rest in
    let old_size : c.len-start.result ≡ length c.args.out.now.items =
    omega (arith, c.len-start.ensures, c.args.out.now.ok.0) in
    record {
      out = append_over_prefix c.args.out.now.items
          (partial_string p.block_size (c.args.i / p.block_size) l.k p.bytes.now) l.out.items _
          c.decode_next.new.out.items (suffix_of (nat_eq l.k 0) l.rest.now) _ c.len-start.result
          (stored_prefix_len (nat_eq l.k 0) l.rest.now)
          old_size l.invariant.out refl c.in_ok-rest.ensures.string u.string;
      rest = c.in_ok-rest.ensures.rest ∙ u.after;
      cost = omega (arith, l.invariant.cost, c.tick.ensures);
    }

pub returns-clause-ok : goal.returns-clause-ok
unfolding strings_of
returns-clause-ok c =
    let p = c.args.section.now.packed in let l = c.loop-k in
    let inside : c.args.i < p.count =
    omega (arith, c.requires, length-decoded_strings p.block_size p.count 0 [] p.bytes.now) in
    let all : l.k ≡ c.args.i % p.block_size + 1 = omega (arith, c.loop-k-test.false, l.auto.k-end) in
    l.invariant.out ∙ ap (λ k. c.args.out.now.items
    ++ partial_string p.block_size (c.args.i / p.block_size) k p.bytes.now) all
    ∙ ap (λ s. c.args.out.now.items ++ s) (string_complete p.block_size p.count c.args.i p.bytes.now inside)

pub nonzero_div-i : goal.nonzero_div-i
unfolding strings_of
nonzero_div-i c =
    let p = c.args.section.now.packed in
    omega (arith, p.some (omega (arith, c.requires, length-decoded_strings p.block_size p.count 0 [] p.bytes.now)))

pub returns-in_err-rest-clause-cost : goal.returns-in_err-rest-clause-cost
unfolding strings_of
returns-in_err-rest-clause-cost c =
    let p = c.args.section.now.packed in let l = c.loop-k in
    omega (
      arith,
      c.loop-k-test.true,
      l.invariant.cost,
      c.tick.ensures,
      mod-lt c.args.i (p.some (omega (
        arith,
        c.requires,
        length-decoded_strings p.block_size p.count 0 [] p.bytes.now,
      ))),
    )

pub returns-clause-cost : goal.returns-clause-cost
unfolding strings_of
returns-clause-cost c =
    let p = c.args.section.now.packed in let l = c.loop-k in
    omega (
      arith,
      c.loop-k-test.false,
      l.auto.k-end,
      l.invariant.cost,
      mod-lt c.args.i (p.some (omega (
        arith,
        c.requires,
        length-decoded_strings p.block_size p.count 0 [] p.bytes.now,
      ))),
    )
