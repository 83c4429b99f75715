-- What a load answers with: its totals, and the two lent lists afterwards.
-- Assumes nothing.
use Rattle.std.specs.Prelude.{List, ℕ}
use Rattle.store_desk.specs.declared.Desk.{Desk}
use Rattle.load.specs.declared.Totals.{Totals}
use Rattle.load.specs.Run.{Report, load_of, all_reports, stored_in, totals_of}

pub record Answer : Type 0 where
  pub totals : Totals
  pub store : List ℕ
  pub reports : List ℕ

-- a stream loaded into store t, with a lent list for the reports
unfoldable pub answered : Desk → List ℕ → List ℕ → List ℕ → Answer
answered d t stream lent =
    let x = load_of d t stream in
    record { totals = totals_of x; store = x.store; reports = stored_in lent (all_reports x) }

-- what stands where there is no report; its word is 0
abbrev pub no_report : Report
no_report = record { number = 0; condition = 0; column = 0 }
