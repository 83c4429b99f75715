-- The change that a secondary asks for, from its fields as the code reads them. By cases on what each field is.
-- Assumes nothing.
use Rattle.std.specs.Prelude.{Err, None, Ok, Option, Result, Some}
use mathlib.Core.Path.{◌≡◌, sym, ap, ◌∙◌}
use mathlib.Core.List.{List}
use Prim.Native.Nat.{ℕ}
use Rattle.text_fields.specs.declared.Field.{Field}
use Rattle.text_fields.specs.Words.{Word, head_of, tail_of}
use Rattle.text_fields.specs.Places.{words_from, field_at, word_in}
use Rattle.value.specs.Number.{number_of, number}
use Rattle.value.specs.Time.{time_of}
use Rattle.store.specs.declared.Edit.{Edit}
use Rattle.store.specs.declared.Edit.TheVariants.{Followon as SetFollowon, Link as SetLink}
use Rattle.load.specs.declared.Fault.{Fault}
use Rattle.load.specs.declared.Secondary.TheVariants.{Followon, Link}
use Rattle.load.specs.Condition.{bad_time}
use Rattle.load.specs.Item.{blame}
use Rattle.load.specs.Fits.{blame_field}
use Rattle.load.specs.Ask.{numbered_by, on_time, delay_of, fade_of, link_by, times_of}
use Rattle.load.proofs.Blames.{blamed_word}
use Rattle.load_naming.specs.Line.{Line}
use Rattle.load_naming.proofs.Fields.{head_at, tail_at}
use Rattle.value.specs.declared.Number.{Number}

-- ---- one time
module _ (w : Word) (k : ℕ → Result Edit Fault) {t : Option ℕ} where
  time_bad : t ≡ None → {r : Fault} → r ≡ blame w bad_time → Err r ≡ on_time w t k
  unfolding on_time
  time_bad e h = ap (λ (x : Fault). Err x) h ∙ sym (ap (λ (x : Option ℕ). on_time w x k) e)

  time_good : {v : ℕ} → t ≡ Some v → k v ≡ on_time w t k
  unfolding on_time
  time_good e = sym (ap (λ (x : Option ℕ). on_time w x k) e)

module _ {text : List ℕ} {at : ℕ} (l : Line text at) {f : Field} (e : f ≡ field_at text at) where
  module _ {t : Option ℕ} (h : t ≡ time_of (word_in text f).chars) where
    head_time : t ≡ time_of (head_of (words_from text at)).chars
    head_time = h ∙ sym (ap (λ (w : Word). time_of w.chars) (head_at l e))

    module _ (k : ℕ → Result Edit Fault) where
      head_wrong : t ≡ None → {r : Fault} → r ≡ blame_field f bad_time
          → Err r ≡ on_time (head_of (words_from text at)) (time_of (head_of (words_from text at)).chars) k
      head_wrong b q = time_bad (head_of (words_from text at)) k (sym head_time ∙ b) (blamed_word text at e bad_time q)

      head_good : {v : ℕ} → t ≡ Some v → k v ≡ on_time (head_of (words_from text at)) (time_of (head_of (words_from text at)).chars) k
      head_good g = time_good (head_of (words_from text at)) k (sym head_time ∙ g)

    -- ---- FOLLOWON
    pub followon_wrong : t ≡ None → {r : Fault} → r ≡ blame_field f bad_time → Err r ≡ times_of Followon (words_from text at)
    unfolding times_of
    followon_wrong b q = head_wrong (λ t. Ok (SetFollowon t)) b q

    pub followon_good : {v : ℕ} → t ≡ Some v → Ok (SetFollowon v) ≡ times_of Followon (words_from text at)
    unfolding times_of
    followon_good g = head_good (λ t. Ok (SetFollowon t)) g

    -- ---- UP, DOWN: the fade, then the delay
    module _ (k : ℕ → ℕ → Edit) where
      abbrev then_delay : ℕ → Result Edit Fault
      then_delay fade =
          on_time (head_of (tail_of (words_from text at))) (delay_of (tail_of (words_from text at))) (λ delay. Ok (k fade delay))

      pub fade_wrong : t ≡ None → {r : Fault} → r ≡ blame_field f bad_time → Err r ≡ fade_of k (words_from text at)
      unfolding fade_of
      fade_wrong b q = head_wrong then_delay b q

      module _ {v : ℕ} (g : t ≡ Some v) {y : Option ℕ} (q : y ≡ delay_of (words_from text f.end)) where
        tail_delay : y ≡ delay_of (tail_of (words_from text at))
        tail_delay = q ∙ sym (ap (λ (ws : List Word). delay_of ws) (tail_at l e))

        pub delay_wrong : y ≡ None → {r : Fault} → r ≡ blame (head_of (words_from text f.end)) bad_time
            → Err r ≡ fade_of k (words_from text at)
        unfolding fade_of
        delay_wrong b h =
            time_bad (head_of (tail_of (words_from text at))) (λ delay. Ok (k v delay)) (sym tail_delay ∙ b)
            (h ∙ sym (ap (λ (ws : List Word). blame (head_of ws) bad_time) (tail_at l e)))
            ∙ head_good then_delay g

        pub delay_good : {u : ℕ} → y ≡ Some u → Ok (k v u) ≡ fade_of k (words_from text at)
        unfolding fade_of
        delay_good h =
            time_good (head_of (tail_of (words_from text at))) (λ delay. Ok (k v delay)) (sym tail_delay ∙ h)
            ∙ head_good then_delay g

  -- ---- LINK
  module _ {n : Result Number Fault} (h : n ≡ numbered_by (word_in text f) (number_of (word_in text f).chars)) where
    link_read : {x : Result Number Fault} → n ≡ x → link_by x ≡ times_of Link (words_from text at)
    unfolding times_of
    link_read g =
        ap (λ (m : Result Number Fault). link_by m) (sym g ∙ h)
        ∙ sym (ap (λ (w : Word). link_by (numbered_by w (number_of w.chars))) (head_at l e))

    pub link_wrong : {c : Fault} → n ≡ Err c → Err c ≡ times_of Link (words_from text at)
    unfolding link_by
    link_wrong g = link_read g

    pub link_good : {a b : ℕ} → n ≡ Ok (number a b) → Ok (SetLink a b) ≡ times_of Link (words_from text at)
    unfolding link_by
    link_good g = link_read g
