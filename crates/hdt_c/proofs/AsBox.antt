-- A resource pointer and a raw box own what a box of the same type owns.
use mir.Syntax.{impl, tnil, dnil}
use mathlib.Core.List.{[]}
use denote.Signature.{Slot, plain}
use Rattle.std_alloc.proofs.BoxSteps.Form.{Bx}
use Rattle.std_heap.specs.contracts.Global as Heap
use Rattle.std_heap.specs.contracts.GlobalAllocator.TheImpl.{ghosts, dict}
use Rattle.std_heap.proofs.Global.TheLaws as heap
use Rattle.hdt_c.specs.contracts.handle.Resource as Resource
use Rattle.hdt_c.proofs.handle.Resource.TheLaws as laws
use Rattle.hdt_c.specs.contracts.handle.RawBox as RawBox
use Rattle.hdt_c.specs.contracts.handle.ResourcePtr as ResourcePtr

abbrev pub E : Bx
E = record {
  row = Resource.the_row;
  laws = laws.the_row_laws;
  al =
      record { row = Heap.the_row; laws = heap.the_row_laws; g = ghosts; d = dict; drops = impl [] tnil dnil };
}

abbrev pub FromRawBox : Slot 0
FromRawBox = plain (λ _. RawBox.the_row Resource.the_row Heap.the_row ghosts)

abbrev pub FromResourcePtr : Slot 0
FromResourcePtr = plain (λ _. ResourcePtr.the_row)
