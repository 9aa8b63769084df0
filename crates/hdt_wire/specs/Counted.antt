-- What contracts see of a counted reader or writer.
use Rattle.std.specs.Prelude.{ℕ}
use Rattle.hdt_wire.specs.declared.counted.Counted.{Counted}

-- the reader or writer
unfoldable pub inner : {T : Type 0} → Counted T → T
inner c = c.inner

-- the number of its failures
unfoldable pub failures : {T : Type 0} → Counted T → ℕ
failures c = c.failures.count
