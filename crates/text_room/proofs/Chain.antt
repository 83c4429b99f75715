-- Texts written one behind the other: room for all of them is room for each, and what they leave is one text. By the laws of calls that write.
-- Assumes nothing.
use mathlib.Core.Path.{◌≡◌, refl, sym, ap, ◌∙◌, subst}
use mathlib.Core.List.{List, [], ◌++◌, append_assoc, append-nil}
use Prim.Native.Nat.{ℕ, ◌+◌, ◌-◌, ◌≤◌}
use native.Mathlib.Omega.{arith}
use lib.ListN.{length, take, drop, length-append}
use Rattle.cells.specs.Put.{put}
use Rattle.cells.proofs.Put.{length-put, put_front}
use Rattle.text_room.specs.Wrote.{wrote, wrote_at}
use Rattle.text_room.proofs.Writes.{next_is, out_is, wrote_is, wrote_none, wrote_then, wrote_as}
use Rattle.text_room.specs.Room.{Room}

pub room_is : {t : List ℕ} {a : ℕ} {xs ys : List ℕ} → xs ≡ ys → Room t a xs → Room t a ys
room_is {t} {a} e h = subst (Room t a) e h

-- room for two texts: for the first, and for the second once the first is written
pub first_room : {t : List ℕ} {a : ℕ} {xs : List ℕ} (ys : List ℕ) → Room t a (xs ++ ys) → Room t a xs
first_room {xs = xs} ys h =
    let f = h.fits in
    let e : length (xs ++ ys) ≡ length xs + length ys = length-append xs ys in
    record { fits = omega arith }

pub then_room : {t : List ℕ} {a : ℕ} (xs : List ℕ) {ys : List ℕ} {r : ℕ} {o : List ℕ} → Room t a (xs ++ ys) → wrote r o ≡ wrote_at t a xs → Room o r ys
then_room {t} {a} xs {ys} {r} {o} h e =
    let f = h.fits in
    let l : length (xs ++ ys) ≡ length xs + length ys = length-append xs ys in
    let m : a + length xs ≤ length t = omega arith in
    let n : length o ≡ length t = ap length (out_is t a xs e) ∙ length-put t a xs m in
    let k : r ≡ a + length xs = next_is t a xs e in
    record { fits = omega arith }

pub both : {t : List ℕ} {a : ℕ} (xs ys : List ℕ) {r s : ℕ} {o p : List ℕ}
    → Room t a (xs ++ ys) → wrote r o ≡ wrote_at t a xs → wrote s p ≡ wrote_at o r ys → wrote s p ≡ wrote_at t a (xs ++ ys)
both {t} {a} xs ys h e f = let g = h.fits in wrote_then t a xs ys (omega arith) e f

-- the length stays
pub wrote-length : {t : List ℕ} {a : ℕ} {xs : List ℕ} {r : ℕ} {o : List ℕ} → Room t a xs → wrote r o ≡ wrote_at t a xs → length o ≡ length t
wrote-length {t} {a} {xs} h e = ap length (out_is t a xs e) ∙ length-put t a xs h.fits

pub wrote_nothing : (t : List ℕ) (a : ℕ) {xs : List ℕ} → xs ≡ [] → wrote a t ≡ wrote_at t a xs
wrote_nothing t a e = wrote_as t a (sym e) (wrote_none t a)

-- a text that was copied to its place
pub text_back : (t : List ℕ) (a : ℕ) (xs ys : List ℕ) → ys ≡ put (take (a + length xs - a) (drop a t)) 0 xs → Room t a xs
    → wrote (a + length xs) (take a t ++ (ys ++ drop (a + length xs - a) (drop a t))) ≡ wrote_at t a xs
text_back t a xs ys e h =
    let f = h.fits in
    wrote_is t a xs refl (put_front t a (a + length xs - a) ys xs e (omega arith) (omega arith))

-- ---- for a loop: of the whole text, a rest is still to be written
pub record Writing (t : List ℕ) (a : ℕ) (whole : List ℕ) (o : List ℕ) (r : ℕ) (rest : List ℕ) : Type 0 where
  pub room : Room t a whole
  pub done : List ℕ
  pub split : whole ≡ done ++ rest
  pub written : wrote r o ≡ wrote_at t a done

pub writing_start : {t : List ℕ} {a : ℕ} {whole rest : List ℕ} → whole ≡ rest → Room t a whole → Writing t a whole t a rest
writing_start {t} {a} e h = record { room = h; done = []; split = e; written = wrote_none t a }

module _ {t : List ℕ} {a : ℕ} {whole o : List ℕ} {r : ℕ} {rest : List ℕ} where
  now_room : Writing t a whole o r rest → Room o r rest
  now_room w = then_room w.done (room_is w.split w.room) w.written

  pub writing_room : {xs : List ℕ} (more : List ℕ) → rest ≡ xs ++ more → Writing t a whole o r rest → Room o r xs
  writing_room more e w = first_room more (room_is e (now_room w))

  pub writing_more : (xs : List ℕ) {more : List ℕ} {s : ℕ} {p : List ℕ} → rest ≡ xs ++ more → Writing t a whole o r rest
      → wrote s p ≡ wrote_at o r xs → Writing t a whole p s more
  writing_more xs {more} e w f =
      let q : whole ≡ (w.done ++ xs) ++ more = w.split ∙ ap (λ (z : List ℕ). w.done ++ z) e ∙ sym (append_assoc w.done xs more) in
      record { room = w.room; done = w.done ++ xs; split = q; written = both w.done xs (first_room more (room_is q w.room)) w.written f }

  pub writing_length : Writing t a whole o r rest → length o ≡ length t
  writing_length w = wrote-length (first_room rest (room_is w.split w.room)) w.written

  -- what is left is written
  pub writing_end : {xs : List ℕ} {s : ℕ} {p : List ℕ} → rest ≡ xs → Writing t a whole o r rest → wrote s p ≡ wrote_at o r xs → wrote s p ≡ wrote_at t a whole
  writing_end {xs} e w f =
      let q : whole ≡ w.done ++ xs = w.split ∙ ap (λ (z : List ℕ). w.done ++ z) e in
      wrote_as t a (sym q) (both w.done xs (room_is q w.room) w.written f)

  -- nothing is left
  pub writing_none : rest ≡ [] → Writing t a whole o r rest → wrote r o ≡ wrote_at t a whole
  writing_none e w =
      let q : whole ≡ w.done = w.split ∙ ap (λ (z : List ℕ). w.done ++ z) e ∙ append-nil w.done in
      wrote_as t a (sym q) w.written
