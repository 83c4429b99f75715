-- Loops over rows of lines (dimmers, pages, slots): what is written or counted so far, with the rows that are left, is the whole.
-- Assumes nothing.
use mathlib.Core.Path.{◌≡◌, refl, sym, ap, ◌∙◌, subst}
use mathlib.Core.List.{List, [], ◌++◌}
use Prim.Native.Nat.{ℕ, zero, suc, ◌+◌, ◌-◌, ◌≤◌, ◌<◌}
use native.Mathlib.Omega.{arith}
use lib.ListN.{length, length-append}
use Rattle.store_desk.specs.declared.Desk.{Desk}
use Rattle.store_desk.specs.Size.{InRange, Within}
use Rattle.store_head.specs.declared.Patch.{Patch}
use Rattle.store.specs.View.{patched_to}
use Rattle.text_room.specs.Wrote.{wrote, wrote_at}
use Rattle.save_lines.specs.Line.{joined, patch_line}
use Rattle.text_room.specs.Room.{Room}
use Rattle.text_room.proofs.Chain.{Writing, writing_start, writing_room, writing_more, writing_none}
use Rattle.save_lines.proofs.Parts.{joined_nil, joined_append}
use Rattle.save.specs.Lines.{dimmer_lines, page_lines, patch_lines}
use Rattle.save.proofs.Rules.{patched_fits, dimmers_long, pages_long}

-- ---- rows: n of them from i on, each some lines
pub record Row (F : ℕ → ℕ → List (List ℕ)) (row : ℕ → List (List ℕ)) : Type 0 where
  pub none : (i : ℕ) → F zero i ≡ []
  pub more : (n i : ℕ) → F (suc n) i ≡ row i ++ F n (i + 1)

module _ {F : ℕ → ℕ → List (List ℕ)} {row : ℕ → List (List ℕ)} (f : Row F row) where
  pub rows_turn : (end i : ℕ) → i < end → joined (F (end - i) i) ≡ joined (row i) ++ joined (F (end - (i + 1)) (i + 1))
  rows_turn end i h =
      let e : end - i ≡ suc (end - (i + 1)) = omega arith in
      ap (λ (z : ℕ). joined (F z i)) e ∙ ap joined (f.more (end - (i + 1)) i) ∙ joined_append (row i) (F (end - (i + 1)) (i + 1))

  pub rows_end : (end i : ℕ) → end ≤ i → joined (F (end - i) i) ≡ []
  rows_end end i h =
      let e : end - i ≡ 0 = omega arith in
      ap (λ (z : ℕ). joined (F z i)) e ∙ ap joined (f.none i) ∙ joined_nil

-- ---- written
pub record Rows (F : ℕ → ℕ → List (List ℕ)) (t : List ℕ) (a : ℕ) (whole : List ℕ) (end : ℕ) (o : List ℕ) (next i : ℕ) : Type 0 where
  pub writing : Writing t a whole o next (joined (F (end - i) i))

pub rows_start : (F : ℕ → ℕ → List (List ℕ)) {t : List ℕ} {a : ℕ} (n : ℕ) → Room t a (joined (F n 1)) → Rows F t a (joined (F n 1)) (n + 1) t a 1
rows_start F n h =
    let e : n ≡ n + 1 - 1 = omega arith in
    record { writing = writing_start (ap (λ (z : ℕ). joined (F z 1)) e) h }

module _ {F : ℕ → ℕ → List (List ℕ)} {row : ℕ → List (List ℕ)} (f : Row F row) {t : List ℕ} {a : ℕ} {whole : List ℕ} {end : ℕ} {o : List ℕ} {next i : ℕ}
    (p : Rows F t a whole end o next i) where
  pub rows_room : i < end → Room o next (joined (row i))
  rows_room h = writing_room _ (rows_turn f end i h) p.writing

  pub rows_more : i < end → {s : ℕ} {z : List ℕ} → wrote s z ≡ wrote_at o next (joined (row i)) → Rows F t a whole end z s (i + 1)
  rows_more h e = record { writing = writing_more (joined (row i)) (rows_turn f end i h) p.writing e }

  pub rows_done : end ≤ i → wrote next o ≡ wrote_at t a whole
  rows_done h = writing_none (rows_end f end i h) p.writing

-- ---- counted
pub record Sums (F : ℕ → ℕ → List (List ℕ)) (whole end total i : ℕ) : Type 0 where
  pub sum : total + length (joined (F (end - i) i)) ≡ whole

module _ {F : ℕ → ℕ → List (List ℕ)} {row : ℕ → List (List ℕ)} (f : Row F row) {whole end total i : ℕ} (p : Sums F whole end total i) where
  pub sums_more : i < end → {k : ℕ} → k ≡ length (joined (row i)) → Sums F whole end (total + k) (i + 1)
  sums_more h e =
      let l : length (joined (F (end - i) i)) ≡ length (joined (row i)) + length (joined (F (end - (i + 1)) (i + 1))) =
      ap length (rows_turn f end i h) ∙ length-append (joined (row i)) (joined (F (end - (i + 1)) (i + 1)))
      in
      let s = p.sum in
      record { sum = omega arith }

  -- nothing exceeds the whole
  pub sums_small : i < end → {k : ℕ} → k ≡ length (joined (row i)) → total + k ≤ whole
  sums_small h e = let s = (sums_more h e).sum in omega arith

  pub sums_done : end ≤ i → total ≡ whole
  sums_done h =
      let l : length (joined (F (end - i) i)) ≡ 0 = ap length (rows_end f end i h) in
      let s = p.sum in
      omega arith

-- ---- dimmers
pub dimmer_row : (d : Desk) (s : List ℕ) (page : ℕ) → Row (dimmer_lines d s page) (λ i. patch_line page i (patched_to d s page i))
unfolding dimmer_lines
dimmer_row d s page = record { none = λ i. refl; more = λ n i. refl }

module _ (d : Desk) (s : List ℕ) (page : ℕ) where
  abbrev pub dimmers_text : List ℕ
  dimmers_text = joined (dimmer_lines d s page d.dimmers 1)

  pub level_fits : (dimmer : ℕ) {p : Patch} → p ≡ patched_to d s page dimmer → p.level < 256
  level_fits dimmer e = subst (λ (z : Patch). z.level < 256) (sym e) (patched_fits d s page dimmer).level

  pub dimmer_start : {t : List ℕ} {a : ℕ} → Room t a dimmers_text → Rows (dimmer_lines d s page) t a dimmers_text (d.dimmers + 1) t a 1
  dimmer_start h = rows_start (dimmer_lines d s page) d.dimmers h

  module _ {t : List ℕ} {a : ℕ} {o : List ℕ} {next dimmer : ℕ} (p : Rows (dimmer_lines d s page) t a dimmers_text (d.dimmers + 1) o next dimmer)
      (h : dimmer ≤ d.dimmers) {e : Patch} (q : e ≡ patched_to d s page dimmer) where
    pub dimmer_room : Room o next (joined (patch_line page dimmer e))
    dimmer_room = subst (λ (z : Patch). Room o next (joined (patch_line page dimmer z))) (sym q) (rows_room (dimmer_row d s page) p (omega arith))

    pub dimmer_more : {m : ℕ} {z : List ℕ} → wrote m z ≡ wrote_at o next (joined (patch_line page dimmer e))
        → Rows (dimmer_lines d s page) t a dimmers_text (d.dimmers + 1) z m (dimmer + 1)
    dimmer_more {m} {z} f =
        rows_more (dimmer_row d s page) p (omega arith)
        (subst (λ (y : Patch). wrote m z ≡ wrote_at o next (joined (patch_line page dimmer y))) q f)

  pub dimmers_small : InRange d → Within 1 page d.patch_pages → length dimmers_text ≤ 41984
  dimmers_small r w =
      let g = r.dimmers.1 in
      let k = r.patch_pages_of.1 in
      let v = w.1 in
      let l = dimmers_long d s page (omega arith) d.dimmers 1 (omega arith) in
      omega arith

  module _ {total dimmer : ℕ} (p : Sums (dimmer_lines d s page) (length dimmers_text) (d.dimmers + 1) total dimmer)
      (h : dimmer ≤ d.dimmers) {e : Patch} (q : e ≡ patched_to d s page dimmer) {k : ℕ} (l : k ≡ length (joined (patch_line page dimmer e))) where
    row_length : k ≡ length (joined (patch_line page dimmer (patched_to d s page dimmer)))
    row_length = l ∙ ap (λ (z : Patch). length (joined (patch_line page dimmer z))) q

    pub dimmer_add : Sums (dimmer_lines d s page) (length dimmers_text) (d.dimmers + 1) (total + k) (dimmer + 1)
    dimmer_add = sums_more (dimmer_row d s page) p (omega arith) row_length

    pub dimmer_fits : InRange d → Within 1 page d.patch_pages → total + k ≤ 41984
    dimmer_fits r w =
        let a = sums_small (dimmer_row d s page) p (omega arith) row_length in
        let b = dimmers_small r w in
        omega arith

-- ---- pages
pub page_row : (d : Desk) (s : List ℕ) → Row (page_lines d s) (λ i. dimmer_lines d s i d.dimmers 1)
unfolding page_lines
page_row d s = record { none = λ i. refl; more = λ n i. refl }

module _ (d : Desk) (s : List ℕ) where
  pub pages_small : InRange d → length (joined (patch_lines d s)) ≤ 167936
  pages_small r =
      let g = r.dimmers.1 in
      let k = r.patch_pages_of.1 in
      let l = pages_long d s g d.patch_pages 1 (omega arith) in
      omega arith

  pub page_start : {t : List ℕ} {a : ℕ} → Room t a (joined (patch_lines d s)) → Rows (page_lines d s) t a (joined (patch_lines d s)) (d.patch_pages + 1) t a 1
  page_start h = rows_start (page_lines d s) d.patch_pages h

  pub page_fits : InRange d → {total page k : ℕ} → Sums (page_lines d s) (length (joined (patch_lines d s))) (d.patch_pages + 1) total page
      → page < d.patch_pages + 1 → k ≡ length (joined (dimmer_lines d s page d.dimmers 1)) → total + k ≤ 167936
  page_fits r p h e = let a = sums_small (page_row d s) p h e in let b = pages_small r in omega arith
