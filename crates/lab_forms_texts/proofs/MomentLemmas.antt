-- A moment is read from its text: its second is that of the date and the time of day which the text shows.
use Rattle.std.proofs.Common.{◌≡◌, ℕ, ◌+◌, ◌-◌, ◌*◌, ◌/◌, ◌%◌, ◌<◌, ◌≤◌, Bool, true, false, List, length, Option, Some, None, Result, Ok, Err, refl, sym, ap, subst, ◌∙◌, arith, IsTrue, IfOk, IfErr, ◌≢◌, ℤ, pos, to_z, w8, w16}
use Rattle.std.specs.Prelude.{◌&&◌, if◌then◌else◌}
use Rattle.std.specs.Option.{ok_or}
use Rattle.std.specs.Result.{result_ok}
use Rattle.std.proofs.lemmas.Int.{to_z_pos}
use Rattle.jiff_core.specs.declared.civil.date.Date.{Date}
use Rattle.jiff_core.specs.declared.civil.time.Time.{Time}
use Rattle.jiff_core.specs.Calendar.{IsDate}
use Rattle.jiff_core.specs.Date.{IsYmd}
use Rattle.jiff_core.specs.Time.{IsTime, IsHms}
use Rattle.jiff_core.specs.DateTime.{civil_seconds}
use Rattle.jiff_core.proofs.SignedLemmas.{signed_arith}
use Rattle.std.specs.Str.{bytes_eq}
use Rattle.std.proofs.lemmas.Bool.{and_parts, and_from, cond-true}
use Rattle.std.proofs.lemmas.Bool.Decides.{nat_tests}
use Rattle.std.proofs.lemmas.Slice.Eq.{bytes_eq-Decides}
use Rattle.lab_forms_texts.specs.Calendar.{days_in_month, second_of_date, day_of, year_of, month_of, day_of_month, hour_of, minute_of, second_of}
use Rattle.lab_forms_texts.specs.Moment.{is_moment, moment_text, two_at, second_told, moment_if_spelled, moment_of, IsNoMoment}
use Rattle.lab_forms_texts.specs.declared.faults.MomentFault.{MomentFault}
use Rattle.lab_forms_texts.proofs.CalendarLemmas.{IsDateOf, own_date, own_year, days_from_civil-date}

-- the six numbers of a moment, each with room in its text
pub record InWidth (n : ℕ) : Type 0 where
  pub date : IsDateOf (year_of (day_of n)) (month_of (day_of n)) (day_of_month (day_of n)) (day_of n)
  pub year : year_of (day_of n) ≤ 9999
  pub month : month_of (day_of n) < 100
  pub day : day_of_month (day_of n) < 100
  pub hour : hour_of n < 24
  pub minute : minute_of n < 60
  pub second : second_of n < 60

days_below_100 : (y m d : ℕ) → d ≤ days_in_month y m → d < 100
days_below_100 y m d h = grind (arith, nat_tests)

pub in_width : (n : ℕ) → IsTrue (is_moment n) → InWidth n
unfolding hour_of minute_of second_of
in_width n is =
    let low : n ≤ 253_402_300_799 = grind (arith, nat_tests) in
    let date = own_date (day_of n) in
    record {
      date = date;
      year = own_year (day_of n) (omega arith);
      month = omega (arith, date.month_in.1);
      day = days_below_100 (year_of (day_of n)) (month_of (day_of n)) (day_of_month (day_of n)) date.day_in.1;
      hour = omega arith;
      minute = omega arith;
      second = omega arith;
    }

-- the second of a moment's own date and time of day
pub second_back : (n : ℕ) → second_of_date (year_of (day_of n)) (month_of (day_of n)) (day_of_month (day_of n)) (hour_of n) (minute_of n) (second_of n) ≡ n
unfolding hour_of minute_of second_of
second_back n = omega (arith, (own_date (day_of n)).counted)

-- what the digits of a moment's text tell
pub record SpellsMoment (text : List ℕ) (n : ℕ) : Type 0 where
  pub long : length text ≡ 20
  pub century : two_at text 0 ≡ year_of (day_of n) / 100
  pub year : two_at text 2 ≡ year_of (day_of n) % 100
  pub month : two_at text 5 ≡ month_of (day_of n)
  pub day : two_at text 8 ≡ day_of_month (day_of n)
  pub hour : two_at text 11 ≡ hour_of n
  pub minute : two_at text 14 ≡ minute_of n
  pub second : two_at text 17 ≡ second_of n

digits_back : (n : ℕ) → n < 100 → (48 + n / 10 - 48) * 10 + (48 + n % 10 - 48) ≡ n
digits_back n low = omega arith

own_tells : (n : ℕ) → IsTrue (is_moment n) → SpellsMoment (moment_text n) n
unfolding moment_text
own_tells n is =
    let w = in_width n is in
    record {
      long = refl;
      century = digits_back (year_of (day_of n) / 100) (omega (arith, w.year));
      year = digits_back (year_of (day_of n) % 100) (omega arith);
      month = digits_back (month_of (day_of n)) w.month;
      day = digits_back (day_of_month (day_of n)) w.day;
      hour = digits_back (hour_of n) (omega (arith, w.hour));
      minute = digits_back (minute_of n) (omega (arith, w.minute));
      second = digits_back (second_of n) (omega (arith, w.second));
    }

tells : (text : List ℕ) (n : ℕ) → IsTrue (is_moment n) → text ≡ moment_text n → SpellsMoment text n
tells text n is e = rw e (own_tells n is)

told_back : (n : ℕ) → IsTrue (is_moment n) → second_told (moment_text n) ≡ n
told_back n is =
    let t = own_tells n is in
    let year : two_at (moment_text n) 0 * 100 + two_at (moment_text n) 2 ≡ year_of (day_of n) = omega (arith, t.century, t.year) in
    rw (year, t.month, t.day, t.hour, t.minute, t.second) (second_back n)

pub moment_complete : (n : ℕ) → IsTrue (is_moment n) → moment_of (moment_text n) ≡ Some n
unfolding moment_of
moment_complete n is =
    let same = (bytes_eq-Decides (moment_text n) (moment_text n)).1 refl in
    ap (moment_if_spelled (moment_text n)) (told_back n is)
    ∙ cond-true (is_moment n && bytes_eq (moment_text n) (moment_text n)) (Some n) None (and_from _ _ is same)

spelled_sound : (text : List ℕ) (v : ℕ) (t : Bool) → is_moment v && bytes_eq (moment_text v) text ≡ t → (n : ℕ)
    → (if t then Some v else None) ≡ Some n → IsTrue (is_moment n) × (text ≡ moment_text n)
spelled_sound text v true is n e =
    let tests = and_parts (is_moment v) (bytes_eq (moment_text v) text) is in
    let same : v ≡ n = cc e in
    let P : ℕ → Type 0 = λ m. IsTrue (is_moment m) × (text ≡ moment_text m) in
    subst P same (tests.0, sym ((bytes_eq-Decides (moment_text v) text).0 tests.1))
spelled_sound text v false is n e = absurd (cc e)

pub moment_sound : (text : List ℕ) (n : ℕ) → moment_of text ≡ Some n → IsTrue (is_moment n) × (text ≡ moment_text n)
unfolding moment_of
moment_sound text n e = spelled_sound text (second_told text) _ refl n e

-- what was read of a text: the moment whose text it is, or that it is no moment's
pub read_ok : (text : List ℕ) (f : MomentFault) (o : Option ℕ) → moment_of text ≡ o → IfOk (ok_or o f) (λ n. IsTrue (is_moment n) × (text ≡ moment_text n))
read_ok text f (Some n) e = moment_sound text n e
read_ok text f None e = tt

pub read_err : (text : List ℕ) (f : MomentFault) (o : Option ℕ) → moment_of text ≡ o → IfErr (ok_or o f) (λ _. IsNoMoment text)
read_err text f (Some n) e = tt
read_err text f None e = λ n is at. let read = sym e ∙ ap moment_of at ∙ moment_complete n is in absurd (cc read)

none_found : (text : List ℕ) → IsNoMoment text → (o : Option ℕ) → moment_of text ≡ o → None ≡ o
none_found text none None e = refl
none_found text none (Some n) e = let read = moment_sound text n e in absurd (none n read.0 read.1)

-- what the digits tell of a moment's text: nothing, another moment, or the moment
abbrev pub IsMomentRead : List ℕ → Option ℕ → Type 0
IsMomentRead text o = (n : ℕ) → IsTrue (is_moment n) → text ≡ moment_text n → o ≡ Some n

pub none_told : (text : List ℕ) (o : Option ℕ) → IsMomentRead text o → o ≡ None → None ≡ moment_of text
none_told text o told none =
    none_found text (λ n is e. let never : None ≡ Some n = sym none ∙ told n is e in absurd (cc never)) (moment_of text) refl

pub other_told : (text : List ℕ) (o : Option ℕ) (m : ℕ) → IsMomentRead text o → o ≡ Some m → bytes_eq (moment_text m) text ≡ false → None ≡ moment_of text
other_told text o m told some differs = none_found text (λ n is e.
    let both : Some m ≡ Some n = sym some ∙ told n is e in
    let one : m ≡ n = cc both in
    let same = (bytes_eq-Decides (moment_text m) text).1 (rw one (sym e)) in
    let never : true ≡ false = sym same ∙ differs in absurd (cc never)) (moment_of text) refl

pub moment_told : (text : List ℕ) (m : ℕ) → IsTrue (is_moment m) → bytes_eq (moment_text m) text ≡ true → Some m ≡ moment_of text
moment_told text m is same =
    let spelled : moment_text m ≡ text = (bytes_eq-Decides (moment_text m) text).0 same in
    sym (rw spelled at (moment_complete m is))

-- ---- what `jiff` makes of the digits of a moment's text

-- the number that is read at a place, where digits stand there
abbrev pub Reads : List ℕ → ℕ → ℕ → Type 0
Reads text place number = two_at text place < 100 → number ≡ two_at text place

pub told_long : (text : List ℕ) (n : ℕ) → IsTrue (is_moment n) → text ≡ moment_text n → length text ≡ 20
told_long text n is e = (tells text n is e).long

pub record ToldDate (year month day : ℤ) (n : ℕ) : Type 0 where
  pub year_is : year ≡ pos (year_of (day_of n))
  pub month_is : month ≡ pos (month_of (day_of n))
  pub day_is : day ≡ pos (day_of_month (day_of n))
  pub is_date : IsDate year month day

pub told_date : (text : List ℕ) (n century year month day : ℕ) → IsTrue (is_moment n) → text ≡ moment_text n
    → Reads text 0 century → Reads text 2 year → Reads text 5 month → Reads text 8 day
    → ToldDate (to_z w16 (century * 100 + year)) (to_z w8 month) (to_z w8 day) n
told_date text n century year month day is e at0 at2 at5 at8 =
    let t = tells text n is e in
    let w = in_width n is in
    let y : century * 100 + year ≡ year_of (day_of n) = omega (arith, at0 (omega (arith, t.century, w.year)), t.century, at2 (omega (arith, t.year)), t.year) in
    let m : month ≡ month_of (day_of n) = at5 (omega (arith, t.month, w.month)) ∙ t.month in
    let d : day ≡ day_of_month (day_of n) = at8 (omega (arith, t.day, w.day)) ∙ t.day in
    let year_is : to_z w16 (century * 100 + year) ≡ pos (year_of (day_of n)) = rw y (to_z_pos w16 (year_of (day_of n)) (omega (arith, w.year))) in
    let month_is : to_z w8 month ≡ pos (month_of (day_of n)) = rw m (to_z_pos w8 (month_of (day_of n)) (omega (arith, w.month))) in
    let day_is : to_z w8 day ≡ pos (day_of_month (day_of n)) = rw d (to_z_pos w8 (day_of_month (day_of n)) (omega (arith, w.day))) in
    record {
      year_is = year_is;
      month_is = month_is;
      day_is = day_is;
      is_date = rw (year_is, month_is, day_is) ((omega (arith, signed_arith, w.year), omega (arith, signed_arith, w.year)), (omega (arith, signed_arith, w.date.month_in), omega (arith, signed_arith, w.date.month_in)), (omega (arith, signed_arith, w.date.day_in), omega (arith, signed_arith, w.date.day_in)));
    }

pub record ToldTime (hour minute second : ℤ) (n : ℕ) : Type 0 where
  pub hour_is : hour ≡ pos (hour_of n)
  pub minute_is : minute ≡ pos (minute_of n)
  pub second_is : second ≡ pos (second_of n)
  pub is_time : IsTime hour minute second (pos 0)

pub told_time : (text : List ℕ) (n hour minute second : ℕ) → IsTrue (is_moment n) → text ≡ moment_text n
    → Reads text 11 hour → Reads text 14 minute → Reads text 17 second
    → ToldTime (to_z w8 hour) (to_z w8 minute) (to_z w8 second) n
told_time text n hour minute second is e at11 at14 at17 =
    let t = tells text n is e in
    let w = in_width n is in
    let h : hour ≡ hour_of n = at11 (omega (arith, t.hour, w.hour)) ∙ t.hour in
    let m : minute ≡ minute_of n = at14 (omega (arith, t.minute, w.minute)) ∙ t.minute in
    let s : second ≡ second_of n = at17 (omega (arith, t.second, w.second)) ∙ t.second in
    let hour_is : to_z w8 hour ≡ pos (hour_of n) = rw h (to_z_pos w8 (hour_of n) (omega (arith, w.hour))) in
    let minute_is : to_z w8 minute ≡ pos (minute_of n) = rw m (to_z_pos w8 (minute_of n) (omega (arith, w.minute))) in
    let second_is : to_z w8 second ≡ pos (second_of n) = rw s (to_z_pos w8 (second_of n) (omega (arith, w.second))) in
    record {
      hour_is = hour_is;
      minute_is = minute_is;
      second_is = second_is;
      is_time = rw (hour_is, minute_is, second_is) ((omega (arith, signed_arith), omega (arith, signed_arith, w.hour)), (omega (arith, signed_arith), omega (arith, signed_arith, w.minute)), (omega (arith, signed_arith), omega (arith, signed_arith, w.second)), (omega (arith, signed_arith), omega (arith, signed_arith)));
    }

-- the seconds of that date and that time
seconds_at : (d : Date) (t : Time) (n : ℕ) → d.year ≡ pos (year_of (day_of n)) → d.month ≡ month_of (day_of n) → d.day ≡ day_of_month (day_of n)
    → t.hour ≡ hour_of n → t.minute ≡ minute_of n → t.second ≡ second_of n → civil_seconds (record { date = d; time = t }) ≡ pos n
unfolding civil_seconds
seconds_at d t n year month day hour minute second =
    let date = own_date (day_of n) in
    let counted = days_from_civil-date (year_of (day_of n)) (month_of (day_of n)) (day_of_month (day_of n)) date.year_in date.day_in.0 in
    rw (year, month, day, hour, minute, second, counted) (omega (arith, signed_arith, second_back n))

pub told_seconds : {y m o h i s : ℤ} (n : ℕ) (d : Date) (t : Time) → ToldDate y m o n → ToldTime h i s n → IsYmd y m o d → IsHms h i s (pos 0) t → civil_seconds (record { date = d; time = t }) ≡ pos n
told_seconds n d t date time ymd hms =
    seconds_at d t n (ymd.0 ∙ date.year_is) (cc (ymd.1 ∙ date.month_is)) (cc (ymd.2 ∙ date.day_is)) (cc (hms.0 ∙ time.hour_is)) (cc (hms.1 ∙ time.minute_is)) (cc (hms.2 ∙ time.second_is))

-- the moment made of them
pub made : (n : ℕ) (z : ℤ) (r : Result ℕ MomentFault) → IsTrue (is_moment n) → z ≡ pos n → IfOk r (λ m. IsTrue (is_moment m) × (z ≡ pos m)) → IfErr r (λ _. (m : ℕ) → IsTrue (is_moment m) → z ≢ pos m) → result_ok r ≡ Some n
made n z (Ok m) is at ok err = let same : pos m ≡ pos n = sym ok.1 ∙ at in let inner : m ≡ n = cc same in ap Some inner
made n z (Err _) is at ok err = absurd (err n is at)

-- the value in an `Ok`, once it is taken out
pub at_ok : {A E : Type 0} (P : A → Type 0) (r : Result A E) (x : A) → Some x ≡ result_ok r → IfOk r P → P x
at_ok P (Ok y) x e h = let same : y ≡ x = cc in subst P same h
at_ok P (Err y) x e h = cc
