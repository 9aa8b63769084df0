-- `info` decides whether a file is tight. A block size that is not valid makes no file.
use Rattle.std.proofs.Common.{◌≡◌, ◌↔◌, ℕ, List, subst}
use Rattle.hdt_file.specs.File.{GraphParts, IsLayout}
use Rattle.hdt_file.specs.Tight.{IsTight}
use Rattle.hdt_build.specs.Options.{IsBlockSize}
use Rattle.hdt_build.specs.Built.{IsRewrittenAs}
use Rattle.hdt_tool.specs.Info.{IsTightFile}

-- A file is tight if its graph is, which is the only one.
pub tight_file : (bytes : List ℕ) (graph : GraphParts) → IsLayout bytes graph
    → ((g : GraphParts) → IsLayout bytes g → IsLayout bytes graph → g ≡ graph) → IsTight graph ↔ IsTightFile bytes
tight_file bytes graph is one = (
  λ t. (graph, record { layout = is; tight = t }),
  λ h. subst IsTight (one h.0 h.1.layout is) h.1.tight,
)

-- A block size that is not valid makes no file, whatever it is.
of_size : (a b : ℕ) (bytes : List ℕ) → (IsBlockSize a → a ≡ b) → IsRewrittenAs a bytes → IsRewrittenAs b bytes
of_size a b bytes same h = subst (λ (n : ℕ). IsRewrittenAs n bytes) (same h.size) h

pub bounded : (a b : ℕ) (bytes : List ℕ) → (IsBlockSize a → a ≡ b) → (IsBlockSize b → b ≡ a)
    → IsRewrittenAs a bytes ↔ IsRewrittenAs b bytes
bounded a b bytes to from = (of_size a b bytes to, of_size b a bytes from)
