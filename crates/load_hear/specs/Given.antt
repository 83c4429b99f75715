-- A load under the numbers that the stream has: nothing is counted, and nothing noted.
-- Assumes nothing.
use Rattle.std.specs.Prelude.{false, ℕ, refl}
use Rattle.load.specs.declared.Heard.{Heard}
use Rattle.load.specs.declared.Numbers.{Numbers}
use Rattle.load.specs.Anew.{numbered}
use Rattle.load.specs.Translated.{as_given}
use Rattle.load_hear.specs.declared.AsGiven.{AsGiven}
use Rattle.load_hear.specs.Naming.{NamingLaws}
use Rattle.std.proofs.Common.{arith}

abbrev pub given_numbers : AsGiven → Numbers
given_numbers s = as_given

abbrev pub GivenWithin : AsGiven → ℕ → Type 0
GivenWithin s n = Unit {0}

abbrev pub given_after : AsGiven → Heard → ℕ → AsGiven
given_after s h slot = s

pub given_laws : NamingLaws false given_numbers GivenWithin given_after
unfolding numbered
given_laws =
    record {
      is_anew = λ s. refl;
      unheard = λ s slot. refl;
      counted = λ s h slot. refl;
      grows = λ s h slot m n w l. tt;
      holds = λ s m n w l. tt;
      fits = λ s w. record { cues = omega arith; groups = omega arith; subs = omega arith };
    }
