use Rattle.std.proofs.Common.{◌≡◌, ◌<◌, ◌^◌, ◌%◌, ℕ, length, sym, subst, arith}
use Rattle.hdt_build.specs.Inside.EntryWriting.{IsWritingEntries}
use Rattle.hdt_build.proofs.EntryWriting.{pushed_piece}
use Rattle.hdt_build.proofs.entry_writer.EntryWriter.push.Goals as goal

pub returns-in_ok-flush : goal.returns-in_ok-flush
returns-in_ok-flush g c = λ before head xs width lt h.
    let s = c.self.inside in
    let now = subst (IsWritingEntries before head width xs) (sym c.self.view_is) h in
    let width_is : s.width ≡ width = now.width_is in
    let same = c.fitting-entry.ensures.same (subst (λ (n : ℕ). c.args.entry < 2 ^ n) (sym width_is) lt) in
    let whole : length c.push.new.self.items % 4096 ≡ 0 = omega (arith, c.len.ensures, c.if-len-eq0.true) in
    pushed_piece before s.out head xs s.pending.items c.push.new.self.items width s.width s.crc c.args.entry
    c.fitting-entry.result c.flush.new.self now c.self.invariant.1 c.fitting-entry.ensures.fits same
    c.in_ok-push.ensures.items whole c.in_ok-flush.ensures
