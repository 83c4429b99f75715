-- The book's counts are the numbers of the definition, and grow by one at most. By cases on what is heard.
-- Assumes nothing.
use Rattle.std.specs.Prelude.{◌≡◌, true, List, ℕ, ◌<◌, refl}
use Rattle.std.proofs.Common.{sym, ap, subst, arith}
use Rattle.store_desk.specs.declared.Kind.TheVariants.{Cue, Group, Sub}
use Rattle.load.specs.declared.Heard.{Heard}
use Rattle.load.specs.declared.Heard.TheVariants.{Other, Accepted, Refused, Link as Asked}
use Rattle.load.specs.Anew.{numbered, one_more}
use Rattle.load.specs.Translated.{asked_at}
use Rattle.load_hear.specs.declared.Book.{Book}
use Rattle.load_hear.specs.declared.Counts.{Counts}
use Rattle.load_hear.specs.Marks.{marked_at}
use Rattle.load_hear.specs.Naming.{NamingLaws}
use Rattle.load_hear.specs.Book.{counted_at, CountsWithin, book_numbers, BookWithin, booked_at}

abbrev book_of : Counts → List ℕ → List ℕ → Book
book_of c ms qs = record { counts = c; marks = ms; asked = qs }

-- where a record of which nothing is heard leaves the counts as they are
module _ (same : (c : Counts) → counted_at c Other ≡ c) where
  unheard : (b : Book) (slot : ℕ) → booked_at b Other slot ≡ b
  unfolding marked_at asked_at
  unheard b slot = ap (λ (c : Counts). book_of c b.marks b.asked) (same b.counts)

  counted : (b : Book) (h : Heard) (slot : ℕ) → book_numbers (booked_at b h slot) ≡ numbered (book_numbers b) h
  unfolding counted_at numbered one_more
  counted b Other slot = ap book_numbers (unheard b slot)
  counted b (Accepted Cue) slot = refl
  counted b (Accepted Group) slot = refl
  counted b (Accepted Sub) slot = refl
  counted b (Refused Cue) slot = refl
  counted b (Refused Group) slot = refl
  counted b (Refused Sub) slot = refl
  counted b (Asked m) slot = refl

  more : (c : Counts) (m n : ℕ) → CountsWithin c m → m < n → CountsWithin c n
  more c m n w l = record { cues = omega arith; groups = omega arith; subs = omega arith; tried = omega arith }

  within : (c : Counts) (h : Heard) (m n : ℕ) → CountsWithin c m → m < n → CountsWithin (counted_at c h) n
  unfolding counted_at
  within c Other m n w l = subst (λ (x : Counts). CountsWithin x n) (sym (same c)) (more c m n w l)
  within c (Accepted Cue) m n w l = record { cues = omega arith; groups = omega arith; subs = omega arith; tried = omega arith }
  within c (Accepted Group) m n w l = record { cues = omega arith; groups = omega arith; subs = omega arith; tried = omega arith }
  within c (Accepted Sub) m n w l = record { cues = omega arith; groups = omega arith; subs = omega arith; tried = omega arith }
  within c (Refused Cue) m n w l = record { cues = omega arith; groups = omega arith; subs = omega arith; tried = omega arith }
  within c (Refused Group) m n w l = more c m n w l
  within c (Refused Sub) m n w l = more c m n w l
  within c (Asked k) m n w l = more c m n w l

  pub book_laws : NamingLaws true book_numbers BookWithin booked_at
  book_laws =
      record {
        is_anew = λ b. refl;
        unheard = unheard;
        counted = counted;
        grows = λ b h slot m n w l. within b.counts h m n w l;
        holds = λ b m n w l. record { cues = omega arith; groups = omega arith; subs = omega arith; tried = omega arith };
        fits = λ b w. record { cues = w.cues; groups = w.groups; subs = w.subs };
      }
