-- A time's text is short.
-- Assumes nothing.
use mathlib.Core.Path.{◌≡◌}
use Prim.Native.Nat.{ℕ, ◌≤◌, ◌<◌}
use native.Mathlib.Omega.{arith}
use lib.ListN.{length}
use Rattle.value_written.specs.Text.{time_text}
use Rattle.value_written.proofs.Texts.{time_long}
use Rattle.show.specs.Calls.{most_bytes}

pub time_small : (t : ℕ) → t < 4294967296 → {n : ℕ} → n ≡ length (time_text t) → n ≤ most_bytes
time_small t h e = omega (arith, time_long t h)
