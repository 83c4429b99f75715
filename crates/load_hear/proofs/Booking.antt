-- The book after a record: a primary by its kind and outcome, and a LINK. By unfolding what is counted, marked and asked for.
-- Assumes nothing.
use Rattle.std.proofs.Common.{◌≡◌, ℕ, ◌+◌, true, false, List, [], ◌∷◌, set, ◌⊎◌, inl, inr, refl, sym, ap, ◌∙◌}
use Rattle.cells.proofs.Split.{cond-true, cond-false}
use Rattle.store_desk.specs.declared.Kind.{Kind}
use Rattle.store_desk.specs.declared.Kind.TheVariants.{Cue, Group, Sub}
use Rattle.load.specs.declared.Family.TheVariants.{Primary}
use Rattle.load.specs.declared.Heard.{Heard}
use Rattle.load.specs.declared.Heard.TheVariants.{Other, Accepted, Refused, Link as Asked}
use Rattle.load.specs.declared.Outcome.{Outcome}
use Rattle.load.specs.Anew.{is_obeyed, family_heard}
use Rattle.load.specs.Translated.{Note, asked_at, asked_by}
use Rattle.load_hear.specs.declared.Book.{Book}
use Rattle.load_hear.specs.declared.Counts.{Counts}
use Rattle.load_hear.specs.Marks.{marked, marked_at, tried_at, marks_by}
use Rattle.load_hear.specs.Naming.{noted_by}
use Rattle.load_hear.specs.Book.{counted_at, booked_at}

abbrev pub counts_of : ℕ → ℕ → ℕ → ℕ → Counts
counts_of c g s t = record { cues = c; groups = g; subs = s; tried = t }

abbrev pub book_of : Counts → List ℕ → List ℕ → Book
book_of c ms qs = record { counts = c; marks = ms; asked = qs }

-- ---- a primary, by its kind
module _ (b : Book) (slot : ℕ) where
  abbrev counts : Counts
  counts = b.counts

  pub cue_accepted : {k : Kind} → k ≡ Cue → {ms qs : List ℕ} → ms ≡ marked b.marks counts.tried → qs ≡ set b.asked slot 0
      → book_of (counts_of (counts.cues + 1) counts.groups counts.subs (counts.tried + 1)) ms qs ≡ booked_at b (Accepted k) slot
  unfolding counted_at marked_at asked_at
  cue_accepted e p q =
      (λ i. book_of (counts_of (counts.cues + 1) counts.groups counts.subs (counts.tried + 1)) (p i) (q i))
      ∙ sym (ap (λ (z : Kind). booked_at b (Accepted z) slot) e)

  pub group_accepted : {k : Kind} → k ≡ Group
      → book_of (counts_of counts.cues (counts.groups + 1) counts.subs counts.tried) b.marks b.asked ≡ booked_at b (Accepted k) slot
  unfolding counted_at marked_at asked_at
  group_accepted e = sym (ap (λ (z : Kind). booked_at b (Accepted z) slot) e)

  pub sub_accepted : {k : Kind} → k ≡ Sub
      → book_of (counts_of counts.cues counts.groups (counts.subs + 1) counts.tried) b.marks b.asked ≡ booked_at b (Accepted k) slot
  unfolding counted_at marked_at asked_at
  sub_accepted e = sym (ap (λ (z : Kind). booked_at b (Accepted z) slot) e)

  pub cue_refused : {k : Kind} → k ≡ Cue
      → book_of (counts_of counts.cues counts.groups counts.subs (counts.tried + 1)) b.marks b.asked ≡ booked_at b (Refused k) slot
  unfolding counted_at marked_at asked_at
  cue_refused e = sym (ap (λ (z : Kind). booked_at b (Refused z) slot) e)

  pub kind_refused : {k : Kind} → (k ≡ Group) ⊎ (k ≡ Sub) → b ≡ booked_at b (Refused k) slot
  unfolding counted_at marked_at asked_at
  kind_refused e =
      sym (elim e [ inl h ↦ ap (λ (z : Kind). booked_at b (Refused z) slot) h | inr h ↦ ap (λ (z : Kind). booked_at b (Refused z) slot) h ])

-- ---- by its outcome
module _ (b : Book) (slot : ℕ) (k : Kind) (o : Outcome) {n : Book} where
  pub accepted_noted : is_obeyed o ≡ true → n ≡ booked_at b (Accepted k) slot → n ≡ booked_at b (family_heard (Primary k) [] o) slot
  unfolding family_heard
  accepted_noted t e = e ∙ sym (ap (λ (h : Heard). booked_at b h slot) (cond-true (is_obeyed o) (Accepted k) (Refused k) t))

  pub refused_noted : is_obeyed o ≡ false → n ≡ booked_at b (Refused k) slot → n ≡ booked_at b (family_heard (Primary k) [] o) slot
  unfolding family_heard
  refused_noted f e = e ∙ sym (ap (λ (h : Heard). booked_at b h slot) (cond-false (is_obeyed o) (Accepted k) (Refused k) f))

-- ---- a LINK
pub link_noted : (b : Book) (slot : ℕ) {n : ℕ} (m : ℕ) → n ≡ m + 1 → {qs : List ℕ} → qs ≡ set b.asked slot n
    → book_of b.counts b.marks qs ≡ booked_at b (Asked m) slot
unfolding counted_at marked_at asked_at
link_noted b slot m e q = ap (λ (z : List ℕ). book_of b.counts b.marks z) (q ∙ ap (λ (x : ℕ). set b.asked slot x) e)

-- ---- after many records: the marks and what was asked for are those of the definitions
tried_counted : (c : Counts) (h : Heard) → (counted_at c h).tried ≡ tried_at c.tried h
unfolding counted_at tried_at
tried_counted c Other = refl
tried_counted c (Accepted Cue) = refl
tried_counted c (Accepted Group) = refl
tried_counted c (Accepted Sub) = refl
tried_counted c (Refused Cue) = refl
tried_counted c (Refused Group) = refl
tried_counted c (Refused Sub) = refl
tried_counted c (Asked m) = refl

pub noted_marks : (ns : List Note) (b : Book) → (noted_by booked_at b ns).marks ≡ marks_by b.marks b.counts.tried ns
unfolding noted_by marks_by
noted_marks [] b = refl
noted_marks (n ∷ ns) b =
    noted_marks ns (booked_at b n.heard n.slot)
    ∙ ap (λ (k : ℕ). marks_by (marked_at b.marks b.counts.tried n.heard) k ns) (tried_counted b.counts n.heard)

pub noted_asked : (ns : List Note) (b : Book) → (noted_by booked_at b ns).asked ≡ asked_by b.asked ns
unfolding noted_by asked_by
noted_asked [] b = refl
noted_asked (n ∷ ns) b = noted_asked ns (booked_at b n.heard n.slot)
