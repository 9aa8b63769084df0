-- Handles of bytes.
use denote.RawPtr.{null_ptr}
use Rattle.std.specs.Prelude.{◌≡◌, ℕ, List, length, None, Some}
use Rattle.std.specs.Vec.{vec_ptr}
use Rattle.std.specs.declared.vec.Vec.{Vec}
use Rattle.std.specs.declared.alloc.Global.{Global}
use Rattle.hdt_c.specs.declared.bytes.HdtBytes.{HdtBytes}
use Rattle.hdt_c.specs.declared.handle.Resource.TheVariants as resources

-- there are no bytes: all fields are zero
pub record HoldsNoBytes (h : HdtBytes) : Type 0 where
  pub at : h.at.at ≡ null_ptr
  pub len : h.len ≡ 0
  pub state : h.state ≡ 0
  pub owner : h.resource.at ≡ null_ptr
  pub resource : h.resource.value ≡ None

-- the bytes are those of a vector that the handle owns; `at` and `len` are its address and length
pub record HoldsBytes (h : HdtBytes) (bytes : List ℕ) : Type 0 where
  pub vector : Vec ℕ Global
  pub items : vector.items ≡ bytes
  pub at : h.at.at ≡ vec_ptr vector
  pub len : h.len ≡ length bytes
  pub state : h.state ≡ 1
  pub resource : h.resource.value ≡ Some (resources.Bytes vector)
