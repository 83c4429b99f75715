-- The reports of a load with translation: those of its records, as in a normal load, and behind them those of the links that are lost; and
-- their columns. By the laws of `theorem_told`, which are of either load.
-- Assumes nothing.
use mathlib.Core.Path.{◌≡◌, refl, sym, subst}
use mathlib.Core.List.{List, [], ◌∷◌, ◌++◌}
use Prim.Native.Nat.{ℕ, zero, suc, ◌≤◌, ◌<◌, min, zero-le}
use native.Mathlib.Nat.{le_refl, not-suc-le-zero, le_of_suc-le-suc}
use native.Mathlib.Omega.{arith}
use lib.Dec.{lit<}
use lib.ListN.{length, replicate}
use Rattle.store_desk.specs.declared.Desk.{Desk}
use Rattle.load.specs.Run.{Run, Report}
use Rattle.load.specs.Translated.{anew_from_one, lost_link, Linked, linked, with_links, translated_of}
use Rattle.theorem_told.specs.Reports.{report_at, Reported}
use Rattle.theorem_told.specs.Columns.{OfRecord}
use Rattle.theorem_told.proofs.Reports.{Rising, Each, each_join, Near, Short, Some, Known, known_near, known_reported, run_known}
use Rattle.theorem_told.proofs.Columns.{run_columns}
use Rattle.theorem_translated.specs.Links.{read_of, asked_of, bornes_of}
use Rattle.theorem_translated.specs.Columns.{ColumnsSaid}

rising_lost : (lo hi : ℕ) (rs : List Report) (n : ℕ) → lo ≤ hi → Rising lo hi rs → Rising lo hi (rs ++ replicate n (lost_link hi))
rising_lost lo hi [] zero l h = tt
rising_lost lo hi [] (suc n) l h = (l, le_refl hi, rising_lost hi hi [] n (le_refl hi) tt)
rising_lost lo hi (r ∷ rs) n l h = (h.0, h.1, rising_lost r.number hi rs n h.1 h.2)

lost_each : (P : Report → Type 0) (q : Report) → P q → (n : ℕ) → Each P (replicate n q)
lost_each P q h zero = tt
lost_each P q h (suc n) = (h, lost_each P q h n)

at_front : (rs qs : List Report) (k : ℕ) → k < length rs → report_at (rs ++ qs) k ≡ report_at rs k
at_front [] qs k l = absurd (not-suc-le-zero l)
at_front (r ∷ rs) qs zero l = refl
at_front (r ∷ rs) qs (suc k) l = at_front rs qs k (le_of_suc-le-suc l)

at_lost : (rs : List Report) (q : Report) (n k : ℕ) → length rs ≤ k → k < length (rs ++ replicate n q) → report_at (rs ++ replicate n q) k ≡ q
at_lost [] q zero k l g = absurd (not-suc-le-zero g)
at_lost [] q (suc n) zero l g = refl
at_lost [] q (suc n) (suc k) l g = at_lost [] q n k zero-le (le_of_suc-le-suc g)
at_lost (r ∷ rs) q n zero l g = absurd (not-suc-le-zero l)
at_lost (r ∷ rs) q n (suc k) l g = at_lost rs q n k (le_of_suc-le-suc l) (le_of_suc-le-suc g)

links_known : (d : Desk) (stream : List ℕ) (x : Run) (l : Linked) → Known d stream x → Known d stream (with_links x l)
links_known d stream x l k =
    let n = length x.outcomes in
    let q : Report = lost_link n in
    record {
      few = k.few;
      rising = rising_lost (min 1 n) n x.reports l.lost (omega arith) k.rising;
      near = each_join Near x.reports _ k.near (lost_each Near q zero-le l.lost);
      short = each_join Short x.reports _ k.short (lost_each Short q (lit< tt) l.lost);
      some = λ r. each_join Some x.reports _ (k.some r) (lost_each Some q (lit< tt) l.lost);
    }

-- ---- of a load
module _ (d : Desk) (t stream : List ℕ) where
  abbrev links : Linked
  links = linked d (asked_of d t stream) (bornes_of d t stream) (read_of d t stream).store

  translated_known : Known d stream (translated_of d t stream)
  unfolding translated_of
  translated_known = links_known d stream (read_of d t stream) links (run_known d anew_from_one t stream)

  pub translated_reported : Reported d stream (translated_of d t stream)
  translated_reported = known_reported d stream (translated_of d t stream) translated_known

  pub translated_columns : ColumnsSaid d t stream
  unfolding translated_of
  translated_columns =
      let x = read_of d t stream in
      let q : Report = lost_link (length x.outcomes) in
      record {
        records =
            λ ok k l.
            subst (OfRecord stream (length x.outcomes)) (sym (at_front x.reports (replicate links.lost q) k l)) (run_columns d ok anew_from_one t stream k l);
        lost = λ k l g. at_lost x.reports q links.lost k l g;
        most = known_near d stream (translated_of d t stream) translated_known;
      }
