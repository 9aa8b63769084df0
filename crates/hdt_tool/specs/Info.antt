-- What `info` finds out about a file.
use Rattle.std.specs.Prelude.{◌≡◌, ◌↔◌, ℕ, Bool, IsTrue, List}
use Rattle.hdt_file.specs.File.{GraphParts}
use Rattle.hdt_file.specs.Tight.{IsTightLayout}
use Rattle.hdt_file.specs.Info.{IsFileInfo}
use Rattle.hdt_file.specs.declared.info.FileInfo.{FileInfo}
use Rattle.hdt_build.specs.Built.{IsRewrittenAs}
use Rattle.hdt_tool.specs.InfoText.{info_text}

-- The bytes are a valid file whose triples use all of its strings.
abbrev pub IsTightFile : List ℕ → Type 0
IsTightFile bytes = (graph : GraphParts) × IsTightLayout bytes graph

-- The text is the output of `info` for a valid file. It is canonical if `rewrite` with the block size of its predicates
-- gives the same bytes.
pub record PrintsInfo (json : Bool) (bytes text : List ℕ) : Type 0 where
  pub info : FileInfo
  pub is : IsFileInfo info bytes
  pub tight : Bool
  pub is_tight : IsTrue tight ↔ IsTightFile bytes
  pub canonical : Bool
  pub is_canonical : IsTrue canonical ↔ IsRewrittenAs info.dictionary.predicates.block_size bytes
  pub printed : text ≡ info_text json info tight canonical
