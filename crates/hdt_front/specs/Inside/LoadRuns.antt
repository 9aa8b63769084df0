-- Runs of bytes that are loaded several at a time.
use Rattle.std.specs.Prelude.{◌≡◌, ℕ, ◌+◌, ◌<◌, ◌≤◌, ◌==◌, Bool, not, ◌&&◌, List}
use Rattle.std.specs.Char.{is_ascii}
use Rattle.std.specs.List.{prefix_len}

-- A run of length `all` covers the first `run` of the n bytes loaded at index `at`: all n of them, or those up to the
-- end of the run.
pub record IsLoadRun (all at n run : ℕ) : Type 0 where
  pub within : run ≤ n
  pub so_far : at + run ≤ all
  pub stop : run < n → at + run ≡ all

-- A byte that is ASCII and not zero.
abbrev pub is_nonzero_ascii : ℕ → Bool
is_nonzero_ascii c = not (c == 0) && is_ascii c

-- The number of such bytes at the start.
abbrev pub ascii_run : List ℕ → ℕ
ascii_run bytes = prefix_len is_nonzero_ascii bytes
