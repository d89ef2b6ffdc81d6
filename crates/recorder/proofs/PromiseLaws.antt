-- The promise of an hour's words, channel by channel.
use Rattle.std.specs.Prelude.{ℕ, ◌+◌, ◌*◌, ◌≤◌, ◌≡◌, List, [], ◌∷◌, length, get_or, Ok, Err}
use Rattle.std.proofs.Math.Path.{refl}
use Rattle.std.proofs.Common.{sym, ap, ◌∙◌, arith, lit≤}
use Rattle.exact.specs.Rounding.{Records}
use Rattle.exact.specs.Sums.{total_of}
use Rattle.layout.specs.Values.{Within}
use Rattle.formulas.specs.Hour.{set_of}
use Rattle.formulas.specs.Formulas.{entry_of, RoundsTo}
use Rattle.formulas.specs.declared.hour.Hour.{Hour}
use Rattle.formulas.specs.declared.hour.Quantity.{Quantity}
use Rattle.formulas.specs.declared.hour.Quantity.TheVariants.{Heat, So2 as So2Rate, Nox as NoxRate, Co2 as Co2Rate}
use Rattle.sheet.specs.Sheet.{word_kind, word_value, sheet_kind, sheet_value, sheet_hour_in}
use Rattle.sheet.proofs.SheetLaws.{word_kind_lem, word_value_lem}
use Rattle.recorder.specs.Recording.{channels, kind_of, column_of, recording_unit, reading_of}
use Rattle.recorder.specs.Recording.{substituted_in, Recorded, recorded_of, recorder_numbers}
use Rattle.recorder.specs.Promise.{unrounded_reading, unrounded_of, StandIn, TakenIn, HourOf, keep_substituted, substituted_among}
use Rattle.recorder.specs.Promise.{ReadingShows, absent, unusable, outside, HourRefuses, RecorderPromise}
use Rattle.recorder.proofs.RecorderLaws.{Given, words_given, number_refused}
use Rattle.recorder.specs.declared.RecorderReading.{RecorderReading}
use Rattle.recorder.specs.declared.RecorderReading.TheVariants.{Measured, Substituted, Absent}
use Rattle.recorder.specs.declared.RecorderHour.{RecorderHour}
use Rattle.recorder.specs.declared.HourWords.{HourWords}
use Rattle.recorder.specs.declared.Channel.{Channel}
use Rattle.recorder.specs.declared.Channel.TheVariants.{So2, Nox, Co2, Flow}
use Rattle.recorder.proofs.ReadingLaws.{reading_shows, reading_good, all_good, channel_count, count_read, reads_exact, stands_at, good_there, units, held, stood}

-- the word of a channel in a sheet where an hour's words stand
module _ (h : RecorderHour) (w : HourWords) (g : Given h w) (sheet : List ℕ) (k : ℕ) (stands : StandIn w sheet k) where
  value_there : (c : Channel) → sheet_value sheet k (kind_of c) ≡ units h w g sheet k stands c
  value_there c = ap word_value (stands_at h w g sheet k stands c ∙ stood h w g sheet k stands c) ∙ word_value_lem (kind_of c) (units h w g sheet k stands c) (held h w g sheet k stands c)

  kind_there : (c : Channel) → sheet_kind sheet k (kind_of c) ≡ kind_of c
  kind_there c = ap word_kind (stands_at h w g sheet k stands c ∙ stood h w g sheet k stands c) ∙ word_kind_lem (kind_of c) (units h w g sheet k stands c) (held h w g sheet k stands c)

  -- the number that the columns have for its value
  within_there : (c : Channel) → Within (column_of c) ((column_of c).step * sheet_value sheet k (kind_of c))
  within_there c = rw (value_there c) (good_there h w g sheet k stands c).recorded.within

  taken_there : TakenIn sheet k
  unfolding sheet_hour_in
  taken_there = record {
    so2_kind = kind_there So2;
    nox_kind = kind_there Nox;
    co2_kind = kind_there Co2;
    flow_kind = kind_there Flow;
    so2 = omega (arith, within_there So2);
    nox = omega (arith, within_there Nox);
    co2 = omega (arith, within_there Co2);
    flow = within_there Flow;
  }

  records_there : (hour : Hour) → HourOf sheet k hour → (c : Channel) →
      Records (recording_unit c) (unrounded_reading (reading_of c h)) (channel_count c hour.readings)
  records_there hour o c =
      let t = good_there h w g sheet k stands c in
      rw (o.readings, reads_exact (reading_of c h) t.float t.reads, count_read c sheet k, value_there c) t.recorded.records

  rounds_there : (hour : Hour) → HourOf sheet k hour → (q : Quantity) → RoundsTo q hour (entry_of q (set_of (unrounded_of h)))
  rounds_there hour o Heat = record { left = records_there hour o Co2; right = records_there hour o Flow }
  rounds_there hour o So2Rate = (o.monitored, record { left = records_there hour o So2; right = records_there hour o Flow })
  rounds_there hour o NoxRate = record { left = records_there hour o Nox; right = records_there hour o Co2 }
  rounds_there hour o Co2Rate = record { left = records_there hour o Co2; right = records_there hour o Flow }

-- the substituted readings, counted

one_more_lem : (r : RecorderReading) (c : Channel) (cs : List Channel) → length (keep_substituted r c cs) ≡ substituted_in r + length cs
one_more_lem (Measured x) c cs = omega arith
one_more_lem (Substituted x) c cs = omega arith
one_more_lem Absent c cs = omega arith

substituted_count : (h : RecorderHour) (cs : List Channel) → total_of (λ c. substituted_in (reading_of c h)) cs ≡ length (substituted_among h cs)
unfolding total_of
substituted_count h [] = refl
substituted_count h (c ∷ cs) = omega (arith, one_more_lem (reading_of c h) c (substituted_among h cs), substituted_count h cs)

refusal_right : (h : RecorderHour) (n : ℕ) → recorded_of h ≡ Err n → HourRefuses h n
refusal_right h n e =
    let r = number_refused h n e in
    let f = r.0 in
    record {
      before = f.before;
      channel = f.channel;
      after = f.after;
      place = f.place;
      good = all_good h f.before f.none;
      shows = reading_shows f.channel (reading_of f.channel h) n f.fault r.1;
    }

-- no other number is given
shown_number : (c : Channel) (reading : RecorderReading) (n : ℕ) → ReadingShows c reading n → (44 ≤ n) × (n ≤ 46)
shown_number c reading _ (absent f) = (lit≤ tt, lit≤ tt)
shown_number c reading _ (unusable x r u) = (lit≤ tt, lit≤ tt)
shown_number c reading _ (outside x r u o) = (lit≤ tt, lit≤ tt)

pub recorder_numbers_lem : (h : RecorderHour) (n : ℕ) → recorded_of h ≡ Err n → (44 ≤ n) × (n ≤ 46)
recorder_numbers_lem h n e = let r = refusal_right h n e in shown_number r.channel (reading_of r.channel h) n r.shows

-- the numbers that an answer says determine it
says_words : (r : Recorded) (w : HourWords) → recorder_numbers r ≡ recorder_numbers (Ok w) → r ≡ Ok w
says_words (Ok v) w e =
    let at : (k : ℕ) → get_or (recorder_numbers (Ok v)) k 0 ≡ get_or (recorder_numbers (Ok w)) k 0 = λ k. ap (λ (l : List ℕ). get_or l k 0) e in
    λ i. Ok (record { so2 = at 0 i; nox = at 1 i; co2 = at 2 i; flow = at 3 i; substituted = at 4 i })
says_words (Err n) w e = absurd (let l = ap length e in omega arith)

says_refused : (r : Recorded) (number : ℕ) → recorder_numbers r ≡ recorder_numbers (Err number) → r ≡ Err number
says_refused (Ok v) number e = absurd (let l = ap length e in omega arith)
says_refused (Err n) number e = let z : n ≡ number = ap (λ (l : List ℕ). get_or l 0 0) e in ap Err z

pub hour_promise : (h : RecorderHour) → RecorderPromise h (recorder_numbers (recorded_of h))
hour_promise h =
    let words : (w : HourWords) → recorder_numbers (recorded_of h) ≡ recorder_numbers (Ok w) → recorded_of h ≡ Ok w = says_words (recorded_of h) in
    record {
      given = λ w e c. reading_good c (reading_of c h) ((words_given h w (words w e)).none c);
      rounds = λ w e sheet k s. rounds_there h w (words_given h w (words w e)) sheet k s;
      taken = λ w e sheet k s. taken_there h w (words_given h w (words w e)) sheet k s;
      counted = λ w e. ap (λ (v : HourWords). v.substituted) (sym (words_given h w (words w e)).words) ∙ substituted_count h channels;
      refused = λ number e. refusal_right h number (says_refused (recorded_of h) number e);
    }

-- an answer that the definition gives has the promise, too
pub promised : (h : RecorderHour) {r : Recorded} → r ≡ recorded_of h → (r ≡ recorded_of h) × RecorderPromise h (recorder_numbers r)
promised h e = (e, rw e (hour_promise h))
