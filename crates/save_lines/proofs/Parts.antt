-- The text of each line as the parts that the code writes, one behind the other: by the definitions, and by regrouping.
-- Assumes nothing.
use mathlib.Core.Path.{◌≡◌, refl, sym, ap, ◌∙◌}
use mathlib.Core.List.{List, [], ◌∷◌, ◌++◌, append_assoc}
use Prim.Native.Nat.{ℕ}
use lib.Dec.{eqb}
use borrow.Author.Tests.{eq-eqb, ne_eqb}
use Rattle.cells.specs.Text.{bytes}
use Rattle.cells.proofs.Split.{cond-true, cond-false}
use Rattle.store_desk.specs.declared.Key.{Key}
use Rattle.store_desk.specs.declared.Kind.{Kind}
use Rattle.store_head.specs.declared.Head.{Head}
use Rattle.store_head.specs.declared.Patch.{Patch}
use Rattle.value_written.specs.Text.{integer_text, number_text, level_text, time_text, marked_text}
use Rattle.save_lines.specs.Line.{crlf, joined, patch_text, patch_line, kind_text, primary_text, delay_text, time_line, link_line, head_lines}
use Rattle.save_lines.specs.Part.{at_level_text}

-- ---- lines with their ends
pub joined_nil : joined [] ≡ []
unfolding joined
joined_nil = refl

pub joined_more : (l : List ℕ) (ls : List (List ℕ)) → joined (l ∷ ls) ≡ l ++ (crlf ++ joined ls)
unfolding joined
joined_more l ls = refl

pub joined_one : (l : List ℕ) → joined (l ∷ []) ≡ l ++ crlf
unfolding joined
joined_one l = refl

pub joined_append : (a b : List (List ℕ)) → joined (a ++ b) ≡ joined a ++ joined b
unfolding joined
joined_append [] b = refl
joined_append (l ∷ a) b =
    ap (λ (z : List ℕ). l ++ (crlf ++ z)) (joined_append a b) ∙ sym (append_assoc l (crlf ++ joined a) (joined b))

-- ---- a level
pub at_level_is : (level : ℕ) → bytes "@" ++ level_text level ≡ at_level_text level
unfolding at_level_text
at_level_is level = refl

-- ---- PATCH
pub patch_parts : (page dimmer : ℕ) (p : Patch)
    → marked_text (bytes "PATCH ") page ++ (marked_text (bytes " ") p.channel ++ (marked_text (bytes "<") dimmer ++ at_level_text p.level))
    ≡ patch_text page dimmer p
unfolding patch_text marked_text at_level_text
patch_parts page dimmer p = refl

module _ (page dimmer : ℕ) (p : Patch) where
  pub patch_none : p.channel ≡ 0 → joined (patch_line page dimmer p) ≡ []
  unfolding patch_line
  patch_none e = ap joined (cond-true (eqb p.channel 0) [] (patch_text page dimmer p ∷ []) (eq-eqb p.channel 0 e)) ∙ joined_nil

  pub patch_some : (p.channel ≡ 0 → ⊥) → patch_text page dimmer p ++ crlf ≡ joined (patch_line page dimmer p)
  unfolding patch_line
  patch_some e =
      sym
      (ap joined (cond-false (eqb p.channel 0) [] (patch_text page dimmer p ∷ []) (ne_eqb p.channel 0 e)) ∙ joined_one (patch_text page dimmer p))

-- ---- the primary
pub primary_parts : (k : Kind) (key : Key) {word : List ℕ} → word ≡ kind_text k
    → word ++ (number_text key.whole key.fraction ++ (marked_text (bytes " ") key.page ++ crlf)) ≡ joined (primary_text k key ∷ [])
unfolding primary_text marked_text
primary_parts k key e =
    let n : List ℕ = number_text key.whole key.fraction in
    let p : List ℕ = bytes " " ++ integer_text key.page in
    ap (λ (z : List ℕ). z ++ (n ++ (p ++ crlf))) e
    ∙ sym
    (joined_one (primary_text k key) ∙ append_assoc (kind_text k) (n ++ p) crlf ∙ ap (λ (z : List ℕ). kind_text k ++ z) (append_assoc n p crlf))

-- ---- times
pub delay_none : (delay : ℕ) → delay ≡ 0 → delay_text delay ≡ []
unfolding delay_text
delay_none delay e = cond-true (eqb delay 0) [] (bytes " " ++ time_text delay) (eq-eqb delay 0 e)

pub delay_some : (delay : ℕ) → (delay ≡ 0 → ⊥) → bytes " " ++ time_text delay ≡ delay_text delay
unfolding delay_text
delay_some delay e = sym (cond-false (eqb delay 0) [] (bytes " " ++ time_text delay) (ne_eqb delay 0 e))

module _ (word : List ℕ) (present fade delay : ℕ) where
  abbrev line : List ℕ
  line = word ++ (time_text fade ++ delay_text delay)

  pub time_none : present ≡ 0 → joined (time_line word present fade delay) ≡ []
  unfolding time_line
  time_none e = ap joined (cond-true (eqb present 0) [] (line ∷ []) (eq-eqb present 0 e)) ∙ joined_nil

  pub time_some : (present ≡ 0 → ⊥) → word ++ (time_text fade ++ (delay_text delay ++ crlf)) ≡ joined (time_line word present fade delay)
  unfolding time_line
  time_some e =
      sym
      (ap joined (cond-false (eqb present 0) [] (line ∷ []) (ne_eqb present 0 e)) ∙ joined_one line
      ∙ append_assoc word (time_text fade ++ delay_text delay) crlf
      ∙ ap (λ (z : List ℕ). word ++ z) (append_assoc (time_text fade) (delay_text delay) crlf))

-- ---- LINK
module _ (h : Head) where
  abbrev link_text : List ℕ
  link_text = bytes "LINK " ++ number_text h.link_whole h.link_fraction

  pub link_none : h.link ≡ 0 → joined (link_line h) ≡ []
  unfolding link_line
  link_none e = ap joined (cond-true (eqb h.link 0) [] (link_text ∷ []) (eq-eqb h.link 0 e)) ∙ joined_nil

  pub link_some : (h.link ≡ 0 → ⊥) → bytes "LINK " ++ (number_text h.link_whole h.link_fraction ++ crlf) ≡ joined (link_line h)
  unfolding link_line
  link_some e =
      sym (ap joined (cond-false (eqb h.link 0) [] (link_text ∷ []) (ne_eqb h.link 0 e)) ∙ joined_one link_text)

  -- ---- all of a head
  pub head_parts : joined (time_line (bytes "UP ") h.up h.up_fade h.up_delay)
      ++ (joined (time_line (bytes "DOWN ") h.down h.down_fade h.down_delay)
      ++ (joined (time_line (bytes "FOLLOWON ") h.followon h.followon_time 0) ++ joined (link_line h)))
      ≡ joined (head_lines h)
  unfolding head_lines
  head_parts =
      let u = time_line (bytes "UP ") h.up h.up_fade h.up_delay in
      let d = time_line (bytes "DOWN ") h.down h.down_fade h.down_delay in
      let f = time_line (bytes "FOLLOWON ") h.followon h.followon_time 0 in
      sym
      (joined_append u (d ++ (f ++ link_line h))
      ∙ ap (λ (z : List ℕ). joined u ++ z)
      (joined_append d (f ++ link_line h) ∙ ap (λ (z : List ℕ). joined d ++ z) (joined_append f (link_line h))))
