-- One record taken: from what the step, the cleaning and the reports ensure to the record's definition, and that there is room.
-- By unfolding the definitions along those equations.
-- Assumes nothing.
use mathlib.Core.Path.{◌≡◌, refl, sym, ap, ◌∙◌, subst}
use mathlib.Core.Bool.{Bool, true, false, not, ◌||◌}
use mathlib.Core.List.{List, [], ◌∷◌, ◌++◌}
use Prim.Native.Nat.{ℕ, ◌+◌, ◌-◌, ◌≤◌}
use native.Mathlib.Omega.{arith}
use lib.Dec.{eqb, ltb}
use lib.ListN.{length, take, drop, length-append}
use borrow.Author.Tests.{eqb-true, not-false}
use Rattle.store_desk.specs.declared.Desk.{Desk}
use Rattle.text_records.specs.declared.Record.{Record}
use Rattle.text_records.specs.declared.Cleaned.{Cleaned}
use Rattle.text_records.specs.Stream.{record_end}
use Rattle.text_records.specs.Received.{longest}
use Rattle.text_records.specs.Cleaning.{is_high, is_control, has, kept_of}
use Rattle.text_records.specs.Window.{window_of, over_long, text_of, in_front, cleaned_of, plain_end}
use Rattle.text_records.proofs.Stream.{end_within}
use Rattle.text_records.proofs.Received.{part_length, received_count, received_length, received_long, received_short, received_part}
use Rattle.text_records.proofs.Cleaning.{kept_length, cleaned_high, cleaned_control, cleaned_within, cleaned_length, cleaned_front}
use Rattle.text_records.proofs.Plain.{plain_kept, plain_high, plain_control, plain_within, end_is}
use Rattle.text_fields.specs.Words.{words_of, fields_of}
use Rattle.store_code.specs.Fits.{Fitting}
use Rattle.text_fields.proofs.Counts.{words_few}
use Rattle.load.specs.declared.Fault.{Fault}
use Rattle.load.specs.declared.Heard.{Heard}
use Rattle.load.specs.declared.Heard.TheVariants.{Other}
use Rattle.load.specs.declared.Numbers.{Numbers}
use Rattle.load.specs.declared.State.{State}
use Rattle.load.specs.declared.Outcome.TheVariants.{Stopped, Blank}
use Rattle.load.specs.Condition.{over_long_record}
use Rattle.load.specs.Item.{blame_none}
use Rattle.load.specs.Ask.{is_over_long}
use Rattle.load.specs.Anew.{ask_in, fields_heard, heard_in}
use Rattle.load.specs.Step.{Step, ended, acted, ignored_in, outcome_faults, reported_of}
use Rattle.load.specs.Translated.{step_in}
use Rattle.load.specs.Run.{stops}
use Rattle.load.specs.Fits.{Small, Near, most_records, text_step}
use Rattle.load.proofs.Anew.{heard_empty, heard_long}
use Rattle.load.proofs.Steps.{Modest, said_by, step_in_said}
use Rattle.load.proofs.Counts.{blank_step_in, blank_said}
use Rattle.load.proofs.Told.{said_in_near}
use Rattle.load_items.specs.Done.{faults_in, most_faults}
use Rattle.load_items.proofs.Faults.{faults_back}
use Rattle.load_held.specs.declared.Held.{Held}
use Rattle.load_held.specs.declared.Stepped.{Stepped}
use Rattle.load_held.specs.Held.{held_of, HeldReady, Room, ResAll, stepping_all, stepped_of, stepped_all}
use Rattle.load_hear.specs.Naming.{NamingLaws, heard_by}
use Rattle.load_tell.specs.declared.Count.{Count}
use Rattle.load_run.specs.declared.Progress.{Progress}
use Rattle.load_tell.specs.Count.{tallied, told, told_as, told_all, ignored_by, faults_as, Tellable, Countable}
use Rattle.load_run.specs.Take.{taken, taken_by, text_taken, record_taken, text_booked, record_booked, blank_taken, TextOf, Spans, Taking}
use Rattle.load_tell.proofs.Telling.{near_more, none_told, told_single, said_room}

-- ---- what the step ensures, part by part
module _ (d : Desk) (x : Step) (fs : List ℕ) {s : Stepped} {t ws : List ℕ} (e : stepping_all s t ws ≡ stepped_all d x fs) where
  stepped_outcome : s.outcome ≡ x.outcome
  unfolding stepped_all stepped_of
  stepped_outcome = ap (λ (r : ResAll). r.res.stepped.outcome) e

  stepped_held : s.held ≡ held_of d x.store x.state
  unfolding stepped_all stepped_of
  stepped_held = ap (λ (r : ResAll). r.res.stepped.held) e

  stepped_store : t ≡ x.store
  unfolding stepped_all stepped_of
  stepped_store = ap (λ (r : ResAll). r.res.store) e

  stepped_words : take s.faults ws ≡ take (length x.faults) (faults_in fs x.faults)
  unfolding stepped_all stepped_of
  stepped_words = ap (λ (r : ResAll). take r.res.stepped.faults r.faults) e

  stepped_count : s.faults ≡ length x.faults
  unfolding stepped_all stepped_of
  stepped_count = ap (λ (r : ResAll). r.res.stepped.faults) e

  -- what is noted of it, as the code has it
  pub step_booked : {S : Type 0} (anew : Bool) (after : S → Heard → ℕ → S) (text : List ℕ) (b : S) {h : Held} {z : S} → h ≡ s.held
      → z ≡ after b (heard_by anew (fields_heard (words_of 0 text) s.outcome)) s.held.slot
      → z ≡ after b (heard_by anew (fields_heard (words_of 0 text) x.outcome)) h.slot
  step_booked anew after text b y v = v ∙ (λ i. after b (heard_by anew (fields_heard (words_of 0 text) (stepped_outcome i))) (sym y i).slot)

  module _ (g : Small x.faults) (few : s.faults ≤ most_faults) (room : Room fs) where
    stepped_faults : faults_as (take s.faults ws) ≡ x.faults
    unfolding faults_as
    stepped_faults =
        let h : length x.faults ≤ length fs = omega (arith, stepped_count) in
        ap faults_as stepped_words ∙ faults_back fs x.faults h g

    -- the faults as the code has them
    said_same : (ig : List Fault) → ig ++ (outcome_faults s.outcome ++ faults_as (take s.faults ws)) ≡ ig ++ said_by x
    said_same ig = λ i. ig ++ (outcome_faults (stepped_outcome i) ++ stepped_faults i)

    -- the step taken
    pub step_taken : (n : Count) (r l : List ℕ) (ig : List Fault) {h : Held} {c : Count} {k : List ℕ} {g : Bool}
        → h ≡ s.held
        → told c k ≡ told_all r (told (tallied n s.outcome) l) (ig ++ (outcome_faults s.outcome ++ faults_as (take s.faults ws)))
        → g ≡ stops s.outcome
        → taken (record { held = h; count = c; stopped = g }) t k ≡ taken_by d n r l x (ig ++ said_by x)
    unfolding taken_by
    step_taken n r l ig {h} {c} {k} {g} y f z =
        let q : told c k ≡ told_all r (told (tallied n x.outcome) l) (ig ++ said_by x) =
        f ∙ (λ i. told_all r (told (tallied n (stepped_outcome i)) l) (said_same ig i)) in
        let u : g ≡ stops x.outcome = z ∙ ap stops stepped_outcome in
        let v : h ≡ held_of d x.store x.state = y ∙ stepped_held in
        λ i. taken (record { held = v i; count = (q i).count; stopped = u i }) (stepped_store i) (q i).list

    -- there is room for its faults
    pub step_room : (n : Count) (r : List ℕ) (size : ℕ) (high control : Bool) → Countable n → n.reports + size ≤ most_records → length r ≤ longest
        → Modest size (said_by x) → Near (length r) (said_by x)
        → Tellable (tallied n s.outcome) r (ignored_by high control ++ (outcome_faults s.outcome ++ faults_as (take s.faults ws)))
    step_room n r size high control h k z m q =
        subst (λ (ys : List Fault). Tellable (tallied n s.outcome) r ys) (sym (said_same (ignored_by high control)))
        (said_room r n s.outcome size high control (said_by x) h k z m q)

-- no more of them than characters of the text
pub text_said : (d : Desk) (b : Numbers) (s : State) (text t : List ℕ) → Modest (length text) (said_by (text_step d b s (words_of 0 text) t))
text_said d b s text t =
    let m = step_in_said d b s (words_of 0 text) t in
    let f : length (said_by (text_step d b s (words_of 0 text) t)) ≤ length (words_of 0 text) = m.few in
    let w : length (words_of 0 text) ≤ length text = words_few 0 text in
    record { few = omega arith; small = m.small }

-- and each is within the record
pub text_near : (d : Desk) (b : Numbers) (s : State) (r text t : List ℕ) → Fitting d t → length text ≤ length r
    → Near (length r) (said_by (text_step d b s (words_of 0 text) t))
text_near d b s r text t f l =
    near_more (length text) (length r) l (said_by (text_step d b s (words_of 0 text) t)) (said_in_near d f.range.cues.0 s t b text)

-- ---- a record's text at the front of some bytes, and the sorts of ignored characters in it
pub record Texted (xs bytes : List ℕ) (n : ℕ) (high control : Bool) : Type 0 where
  pub within : n ≤ length bytes
  pub text : take n bytes ≡ kept_of xs
  pub highs : high ≡ has is_high xs
  pub controls : control ≡ has is_control xs

-- where the two ways meet
pub texted_as : {xs bytes ys : List ℕ} {n m : ℕ} {high control h c : Bool} → Texted xs bytes n high control
    → ys ≡ bytes → m ≡ n → h ≡ high → c ≡ control → Texted xs ys m h c
texted_as {xs} {bytes} {ys} {n} {m} {high} {control} {h} {c} w e f g k =
    subst (λ (z : List ℕ). Texted xs z m h c) (sym e)
    (subst (λ (z : ℕ). Texted xs bytes z h c) (sym f)
    (subst (λ (z : Bool). Texted xs bytes n z c) (sym g) (subst (λ (z : Bool). Texted xs bytes n high z) (sym k) w)))

-- ---- the record as received
module _ (s : List ℕ) (at end : ℕ) {plain : Bool} (w : Spans s at end plain) where
  pub spans_in : (at ≤ end) × (end ≤ length s)
  spans_in =
      let a : record_end s at ≤ length s = end_within s at w.within in
      let b : end ≡ record_end s at = w.ends in
      (omega arith, omega arith)

  abbrev chars : List ℕ
  chars = take (end - at) (drop at s)

  chars-length : length chars ≡ end - at
  chars-length = let i : (at ≤ end) × (end ≤ length s) = spans_in in part_length s at (end - at) (omega arith)

  pub part_taking : {d : Desk} {p : Progress} {t : List ℕ} → Taking d p (end - at) t → Taking d p (length chars) t
  part_taking {d} {p} {t} k = subst (λ (n : ℕ). Taking d p n t) (sym chars-length) k

  module _ {q : Record} {b : Bool} (e : q ≡ window_of (drop at s) (end - at)) (f : b ≡ over_long q) where
    pub is_long : {v : Bool} → b ≡ v → is_over_long chars ≡ v
    is_long g = ap (λ (n : ℕ). ltb longest n) chars-length ∙ sym (received_long (drop at s) (end - at) e) ∙ sym f ∙ g

    module _ (g : b ≡ false) where
      short_size : end - at ≤ longest
      short_size = received_short (drop at s) (end - at) e (sym f ∙ g)

      short_count : q.count ≤ longest
      short_count =
          let a : q.count ≡ end - at = received_count (drop at s) (end - at) e in
          let h : end - at ≤ longest = short_size in
          omega arith

      pub short_within : q.count ≤ length q.bytes
      short_within = subst (λ (n : ℕ). q.count ≤ n) (sym (received_length (drop at s) (end - at) e)) short_count

      short_text : text_of q ≡ chars
      short_text = received_part s at end e short_size spans_in.1

      -- a plain record is its own text
      pub plain_texted : not plain ≡ false → Texted chars q.bytes q.count false false
      plain_texted g =
          let h : plain_end s at ≡ end = eqb-true (plain_end s at) end (sym w.told ∙ not-false plain g) in
          record {
            within = short_within;
            text = short_text ∙ sym (plain_kept s at refl h);
            highs = sym (plain_high s at refl h);
            controls = sym (plain_control s at refl h);
          }

      -- another is cleaned at the front of its bytes
      pub cleaned_texted : {c : Cleaned} {front : List ℕ} → in_front c front ≡ cleaned_of (text_of q)
          → Texted chars (front ++ drop q.count q.bytes) c.count c.high c.control
      cleaned_texted {c} {front} k =
          let z : in_front c front ≡ cleaned_of chars = k ∙ ap cleaned_of short_text in
          let rest = drop q.count q.bytes in
          let l : length (front ++ rest) ≡ length front + length rest = length-append front rest in
          let m : length front ≡ length chars = cleaned_length chars z in
          let n : c.count ≤ length chars = cleaned_within chars z in
          record {
            within = omega arith;
            text = cleaned_front chars z rest;
            highs = cleaned_high chars z;
            controls = cleaned_control chars z;
          }

      pub short_chars : length chars ≤ longest
      short_chars = omega (arith, chars-length, short_size)

-- ---- a record that is not over-long
module _ {xs bytes : List ℕ} {n : ℕ} {high control : Bool} (w : Texted xs bytes n high control) where
  pub text_taken_lem : (d : Desk) (b : Numbers) (p : Progress) (t l : List ℕ) → is_over_long xs ≡ false
      → text_taken d b p xs (take n bytes) high control t l ≡ record_taken d b p xs t l
  unfolding step_in ask_in reported_of ignored_in fields_of
  text_taken_lem d b p t l o =
      rw o (λ i.
      let x = text_step d b p.held.state (words_of 0 (w.text i)) t in
      taken_by d p.count xs l x (ignored_by (w.highs i) (w.controls i) ++ said_by x))

  pub text_room_lem : {d : Desk} {p : Progress} {t : List ℕ} → length xs ≤ longest → Taking d p (length xs) t
      → TextOf xs (take n bytes) high control × Taking d p (length (take n bytes)) t
  text_room_lem {d} {p} {t} h k =
      let a : length (take n bytes) ≡ length (kept_of xs) = ap (λ (z : List ℕ). length z) w.text in
      let b : length (kept_of xs) ≤ length xs = kept_length xs in
      let f : p.count.reports + length xs ≤ most_records = k.room in (
        record { short = h; within = omega arith; marred = λ i. w.highs i || w.controls i },
        record { fitting = k.fitting; ready = k.ready; countable = k.countable; room = omega arith },
      )

-- ---- an over-long one
pub long_taken : (d : Desk) (b : Numbers) (p : Progress) (r t l : List ℕ) {n : Count} {k : List ℕ} → is_over_long r ≡ true → HeldReady d t p.held
    → told n k ≡ told_as (told (tallied p.count (Stopped (blame_none over_long_record))) l) over_long_record 0
    → taken (record { held = p.held; count = n; stopped = true }) t k ≡ record_taken d b p r t l
unfolding step_in ask_in acted reported_of outcome_faults taken_by stops
long_taken d b p r t l {n} {k} o h e =
    let q : told n k ≡ told_all r (told (tallied p.count (Stopped (blame_none over_long_record))) l) (blame_none over_long_record ∷ []) =
    e ∙ none_told r _ over_long_record ∙ told_single r _ (blame_none over_long_record) in
    rw o (λ i. taken (record { held = h.same i; count = (q i).count; stopped = true }) t (q i).list)

-- ---- one with no character
module _ (d : Desk) (p : Progress) (r t : List ℕ) (e : r ≡ []) where
  pub blank_taken_lem : (b : Numbers) (l : List ℕ) {q : Progress} → HeldReady d t p.held → q ≡ blank_taken p → taken q t l ≡ record_taken d b p r t l
  unfolding taken_by stops told_all
  blank_taken_lem b l h f =
      let s = p.held.state in
      let x : ended s Blank t ≡ step_in d b s [] t = sym (blank_step_in d b s t) in
      (λ i. taken (f i) t l)
      ∙ (λ i. taken (record { held = h.same i; count = tallied p.count Blank; stopped = false }) t l)
      ∙ (λ i. taken_by d p.count [] l (ended s Blank t) (sym (blank_said s t) i))
      ∙ (λ i. taken_by d p.count [] l (x i) (reported_of [] (x i)))
      ∙ (λ i. record_taken d b p (sym e i) t l)

-- ---- what is noted, in either load
module _ {S : Type 0} {anew : Bool} {numbers : S → Numbers} {within : S → ℕ → Type 0} {after : S → Heard → ℕ → S}
    (laws : NamingLaws anew numbers within after) (d : Desk) (p : Progress) (t : List ℕ) (b : S) (slot : ℕ) where
  -- where nothing is heard
  nothing_booked : {h : Heard} → h ≡ Other → b ≡ after b h slot
  nothing_booked e = sym (ap (λ (x : Heard). after b x slot) e ∙ laws.unheard b slot)

  pub long_booked : (r : List ℕ) → is_over_long r ≡ true → b ≡ record_booked numbers after d p r t b slot
  long_booked r o = nothing_booked (heard_long (numbers b) r _ o)

  pub blank_booked : (r : List ℕ) → r ≡ [] → b ≡ record_booked numbers after d p r t b slot
  blank_booked r e =
      nothing_booked (heard_empty (numbers b) (step_in d (numbers b) p.held.state [] t).outcome)
      ∙ (λ i. record_booked numbers after d p (sym e i) t b slot)

  pub text_booked_lem : {xs bytes : List ℕ} {n : ℕ} {high control : Bool} → Texted xs bytes n high control → is_over_long xs ≡ false
      → text_booked anew numbers after d p (take n bytes) t b slot ≡ record_booked numbers after d p xs t b slot
  unfolding step_in ask_in fields_of heard_in
  text_booked_lem w o =
      rw o (λ i.
      let ws = words_of 0 (w.text i) in
      after b (heard_by (sym (laws.is_anew b) i) (fields_heard ws (text_step d (numbers b) p.held.state ws t).outcome)) slot)

-- ---- where a record ends, looked for behind its plain characters
module _ (stream : List ℕ) {at : ℕ} (h : at ≤ length stream) {first : ℕ} (e : first ≡ plain_end stream at) where
  pub first_in : first ≤ length stream
  first_in = let l : plain_end stream at ≤ length stream = plain_within stream at h in omega arith

  pub spans_at : {end : ℕ} → end ≡ record_end stream first → Spans stream at end (eqb first end)
  spans_at {end} f = record { ends = end_is stream at e f; within = h; told = ap (λ (k : ℕ). eqb k end) e }
