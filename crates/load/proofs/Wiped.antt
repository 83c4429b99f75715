-- What CLEAR removes: one list of tables behind another, and the store as long as it was. By induction on what is removed.
-- Assumes nothing.
use mathlib.Core.Path.{◌≡◌, refl, sym, ◌∙◌, subst}
use mathlib.Core.List.{List, [], ◌∷◌, ◌++◌}
use Prim.Native.Nat.{ℕ, ◌≤◌}
use lib.ListN.{length}
use Rattle.store_desk.specs.declared.Desk.{Desk}
use Rattle.store_desk.specs.Size.{store_length}
use Rattle.store.specs.Change.{cleared, cleared_patch}
use Rattle.store.proofs.Clear.{clear_length}
use Rattle.store.proofs.Patches.{clear_patch_length}
use Rattle.load.specs.Ask.{Wipe, table, dimmers}
use Rattle.load.specs.Step.{wiped}
use Rattle.load.proofs.Deed.{WipesFit}

pub wiped_join : (d : Desk) (a b : List Wipe) (t : List ℕ) → wiped d (a ++ b) t ≡ wiped d b (wiped d a t)
unfolding wiped
wiped_join d [] b t = refl
wiped_join d (table k p ∷ a) b t = wiped_join d a b (cleared d t k p)
wiped_join d (dimmers p ∷ a) b t = wiped_join d a b (cleared_patch d t p)

pub wiped-length : (d : Desk) (xs : List Wipe) → WipesFit d xs → (t : List ℕ) → store_length d ≤ length t → length (wiped d xs t) ≡ length t
unfolding wiped
wiped-length d [] f t l = refl
wiped-length d (table k p ∷ xs) f t l =
    let e : length (cleared d t k p) ≡ length t = clear_length d t l k p in
    wiped-length d xs f.1 (cleared d t k p) (subst (λ (n : ℕ). store_length d ≤ n) (sym e) l) ∙ e
wiped-length d (dimmers p ∷ xs) f t l =
    let e : length (cleared_patch d t p) ≡ length t = clear_patch_length d t l p f.0 in
    wiped-length d xs f.1 (cleared_patch d t p) (subst (λ (n : ℕ). store_length d ≤ n) (sym e) l) ∙ e
