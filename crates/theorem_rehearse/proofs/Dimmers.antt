-- The patch on two desks with equally many channels: each record keeps every dimmer of the smaller, on its patch pages, patched as on the
-- larger. Most records touch no entry; PATCH and CLEAR act alike within the smaller's limits and elsewhere beyond them. By the cases of one
-- record on two desks.
-- Assumes nothing.
use mathlib.Core.Path.{◌≡◌, refl, sym, ap, ◌∙◌}
use mathlib.Core.Bool.{false, cond, ◌&&◌}
use mathlib.Core.List.{List}
use Prim.Native.Nat.{ℕ}
use native.Mathlib.Omega.{arith}
use lib.Dec.{eqb}
use borrow.Author.Tests.{ne_eqb}
use Rattle.cells.proofs.Split.{cond-false, and_false_left, and_false_right}
use Rattle.store_desk.specs.declared.Desk.{Desk}
use Rattle.store_desk.specs.Size.{Within}
use Rattle.store.specs.View.{patched_to}
use Rattle.store.specs.Change.{patch_entry, patched}
use Rattle.store.specs.Good.{Ready}
use Rattle.store.proofs.Patches.{patch_view, patch_good}
use Rattle.load.specs.declared.Entry.{Entry}
use Rattle.load.specs.declared.State.{State}
use Rattle.load.specs.Item.{page, done, all_done}
use Rattle.load.specs.Ask.{Wipe, Ask, rests, skips, opens, items}
use Rattle.load.specs.Step.{wiped, acted, record_step}
use Rattle.load.specs.Fits.{AllFit}
use Rattle.load.proofs.Deed.{WipesFit}
use Rattle.theorem_rehearse.specs.Rehearse.{Larger, PatchedAlike}
use Rattle.theorem_rehearse.specs.Frame.{patches_dimmer}
use Rattle.theorem_rehearse.proofs.Items.{Triples, triple_faults, beyond_triple, same_triple, Each, none, next}
use Rattle.theorem_rehearse.proofs.Wipes.{Wipes, dimmers_alike}
use Rattle.theorem_rehearse.proofs.Frame.{changes_dimmer, targets_dimmer, AskFits, ask_fits, wiped_seen, ask_framed}
use Rattle.theorem_rehearse.proofs.Both.{Both, resting, skipping, opening, opening_beyond, patching, patching_beyond}
use Rattle.theorem_rehearse.proofs.Both.{clearing, clearing_beyond, augmenting, record_both}

module _ (d D : Desk) (l : Larger d D) (same : d.channels ≡ D.channels) where
  pub wide_page : (p : ℕ) → Within 1 p d.patch_pages → Within 1 p D.patch_pages
  wide_page p w = let m = l.patch_pages_of in omega arith

  pub wide_dimmer : (q : ℕ) → Within 1 q d.dimmers → Within 1 q D.dimmers
  wide_dimmer q w = let m = l.dimmers in omega arith

  -- ---- PATCH on a page of both
  triples_alike : (p : ℕ) → Within 1 p d.patch_pages → {es ES : List Entry} → Each (Triples d D) es ES → AllFit d es → AllFit D ES
      → (t T : List ℕ) → Ready d t → Ready D T → PatchedAlike d D t T → PatchedAlike d D (all_done d (page p) t es) (all_done D (page p) T ES)
  unfolding all_done done
  triples_alike p w none f F t T r R a = a
  triples_alike p w (next triple_faults h) f F t T r R a = triples_alike p w h f.1 F.1 t T r R a
  triples_alike p w (next (beyond_triple n k v b) h) f F t T r R a =
      let G = F.0 in
      let W = wide_page p w in
      triples_alike p w h f.1 F.1 t (patched D T p k n v) r (patch_good D T R.long R.range p k n v W G.1 G.0 G.2 R)
      (λ x y wx wy.
      a x y wx wy
      ∙ sym
      (patch_view D T R.long R.range p k n v W G.1 G.0 G.2 x y (wide_page x wx) (wide_dimmer y wy)
      ∙ cond-false (eqb p x && eqb k y) (patch_entry n v) (patched_to D T x y)
      (let g = b same in and_false_right (eqb p x) (eqb k y) (ne_eqb k y (omega arith)))))
  triples_alike p w (next (same_triple n k v) h) f F t T r R a =
      let g = f.0 in
      let G = F.0 in
      let W = wide_page p w in
      triples_alike p w h f.1 F.1 (patched d t p k n v) (patched D T p k n v)
      (patch_good d t r.long r.range p k n v w g.1 g.0 g.2 r)
      (patch_good D T R.long R.range p k n v W G.1 G.0 G.2 R)
      (λ x y wx wy.
      patch_view d t r.long r.range p k n v w g.1 g.0 g.2 x y wx wy
      ∙ ap (cond (eqb p x && eqb k y) (patch_entry n v)) (a x y wx wy)
      ∙ sym (patch_view D T R.long R.range p k n v W G.1 G.0 G.2 x y (wide_page x wx) (wide_dimmer y wy)))

  module _ (t T : List ℕ) (r : Ready d t) (R : Ready D T) (a : PatchedAlike d D t T) where
    -- ---- CLEAR
    wipes_alike : {xs XS : List Wipe} → Wipes d xs XS → WipesFit d xs → WipesFit D XS → PatchedAlike d D (wiped d xs t) (wiped D XS T)
    wipes_alike {xs} {XS} w f F x y wx wy =
        (wiped_seen d xs f t r).dimmers x y wx wy
        ∙ (λ i. cond (dimmers_alike d w x wx i) (patch_entry 0 0) (a x y wx wy i))
        ∙ sym ((wiped_seen D XS F T R).dimmers x y (wide_page x wx) (wide_dimmer y wy))

    module _ (s S : State) where
      -- ---- what touches no dimmer of the smaller
      calm_alike : (b B : Ask) → AskFits d s b → AskFits D S B → ((p q : ℕ) → changes_dimmer b p q ≡ false)
          → ((p q : ℕ) → Within 1 p d.patch_pages → changes_dimmer B p q ≡ false) → PatchedAlike d D (acted d s t b).store (acted D S T B).store
      calm_alike b B f F g G p q wp wq =
          (ask_framed d t r s b f).dimmers p q wp wq (g p q)
          ∙ a p q wp wq
          ∙ sym ((ask_framed D T R S B F).dimmers p q (wide_page p wp) (wide_dimmer q wq) (G p q wp))

      alike : {b B : Ask} → Both d D (λ n. false) s S b B → AskFits d s b → AskFits D S B → PatchedAlike d D (acted d s t b).store (acted D S T B).store
      unfolding acted wiped changes_dimmer targets_dimmer
      alike (resting o O e) f F = a
      alike (skipping o O e) f F = a
      alike (opening k y) f F = calm_alike (opens k y) (opens k y) f F (λ p q. refl) (λ p q wp. refl)
      alike (opening_beyond o e k y n) f F = calm_alike (skips o) (opens k y) f F (λ p q. refl) (λ p q wp. refl)
      alike (patching p x) f F = triples_alike p f.0 x f.1 F.1 t T r R a
      alike (patching_beyond o e p b es) f F =
          calm_alike (rests o) (items (page p) es) f F (λ x y. refl)
          (λ x y wx. and_false_left (eqb p x) (patches_dimmer es y) (ne_eqb p x (omega arith)))
      alike (clearing w) f F = wipes_alike w f F
      alike (clearing_beyond o e w) f F = wipes_alike w tt F
      alike (augmenting {a = b} {A = B} c C x) f F = calm_alike b B f F c.0 (λ p q wp. C.0 p q)

      pub record_alike : (x : List ℕ) → PatchedAlike d D (record_step d s x t).store (record_step D S x T).store
      unfolding record_step
      record_alike x = alike (record_both d D l (λ n. false) s S x) (ask_fits d s x) (ask_fits D S x)
