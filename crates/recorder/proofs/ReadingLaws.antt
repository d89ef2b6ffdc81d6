-- What an hour's readings give, channel by channel: that they are good or what they show, and the words that stand in a sheet.
use Rattle.std.specs.Prelude.{ℕ, ◌+◌, ◌*◌, ◌%◌, ◌<◌, ◌≡◌, Bool, List, [], ◌∷◌, get_or, Float}
use Rattle.std.proofs.Math.Path.{refl, subst}
use Rattle.std.proofs.Common.{sym, ap, ◌∙◌, true≢false, arith}
use Rattle.std.proofs.Math.Bool.{true, false}
use Rattle.exact.proofs.RoundingLaws.{records_half_up, records_rounded}
use Rattle.exact.specs.Faults.{◌or_else◌, unless}
use Rattle.exact.specs.Logic.{All}
use Rattle.layout.specs.Values.{in_range}
use Rattle.layout.specs.LayoutLaws.{in_range_true, true_in_range, thousands_back}
use Rattle.formulas.specs.declared.hour.Readings.{Readings}
use Rattle.sheet.specs.Sheet.{hour_words, value_size, word_of, flow_kind, sheet_value, sheet_hour, sheet_hour_in, recorded_readings}
use Rattle.recorder.specs.Recording.{exact_of, usable, units_in, kind_of, column_of, recording_unit, reading_of, column_number, float_fault, fault_of, word_for}
use Rattle.recorder.specs.Recording.{words_for}
use Rattle.recorder.specs.Promise.{unrounded_reading, StandIn}
use Rattle.recorder.specs.Promise.{Reads, RecordsIn, Good, ReadingShows, absent, unusable, outside}
use Rattle.recorder.proofs.ChannelLaws.{most_held}
use Rattle.recorder.proofs.RecorderLaws.{Given}
use Rattle.recorder.specs.declared.RecorderReading.{RecorderReading}
use Rattle.recorder.specs.declared.RecorderReading.TheVariants.{Measured, Substituted, Absent}
use Rattle.recorder.specs.declared.RecorderHour.{RecorderHour}
use Rattle.recorder.specs.declared.HourWords.{HourWords}
use Rattle.recorder.specs.declared.Channel.{Channel}
use Rattle.recorder.specs.declared.Channel.TheVariants.{So2, Nox, Co2, Flow}

-- the number is a whole one of the columns' steps
whole_steps_lem : (c : Channel) (n : ℕ) → (column_of c).step * n % (column_of c).step ≡ 0
whole_steps_lem So2 n = omega arith
whole_steps_lem Nox n = omega arith
whole_steps_lem Co2 n = omega arith
whole_steps_lem Flow n = omega arith

-- a fault shows what its number says, and a reading without one is good

records_one : (c : Channel) (x : Float) (units : ℕ) → RecordsIn c x units → units ≡ units_in (recording_unit c) x
records_one c x units r = sym ((records_half_up (recording_unit c) (exact_of x) units).0 r.records)

no_units : (c : Channel) (x : Float) → in_range (column_of c) (column_number c x) ≡ false → (units : ℕ) → RecordsIn c x units → ⊥
no_units c x e units r =
    let w = rw (records_one c x units r) at r.within in
    true≢false (sym (true_in_range (column_of c) (column_number c x) (w.least, w.most)) ∙ e)

module _ (c : Channel) (reading : RecorderReading) (x : Float) (reads : Reads reading x) where
  float_shows : (n : ℕ) → float_fault c x ≡ n → (n ≡ 0 → ⊥) → ReadingShows c reading n
  unfolding float_fault
  float_shows n e z = go (usable x) (in_range (column_of c) (column_number c x)) refl refl e
    where
      go : (u i : Bool) → usable x ≡ u → in_range (column_of c) (column_number c x) ≡ i →
          (unless u 45 or_else unless i 46) ≡ n → ReadingShows c reading n
      go false i a b f = subst (λ (k : ℕ). ReadingShows c reading k) f (unusable x reads a)
      go true false a b f = subst (λ (k : ℕ). ReadingShows c reading k) f (outside x reads a (no_units c x b))
      go true true a b f = absurd (z (sym f))

  float_good : float_fault c x ≡ 0 → Good c reading
  unfolding float_fault
  float_good e = go (usable x) (in_range (column_of c) (column_number c x)) refl refl e
    where
      go : (u i : Bool) → usable x ≡ u → in_range (column_of c) (column_number c x) ≡ i →
          (unless u 45 or_else unless i 46) ≡ 0 → Good c reading
      go false i a b f = absurd (omega arith)
      go true false a b f = absurd (omega arith)
      go true true a b f =
          let r = in_range_true (column_of c) (column_number c x) b in
          let n = units_in (recording_unit c) x in
          record {
            float = x;
            reads = reads;
            is_usable = a;
            units = n;
            recorded = record {
              records = records_rounded (recording_unit c) (exact_of x);
              within = record { least = r.0; most = r.1; steps = whole_steps_lem c n };
            };
          }

pub reading_shows : (c : Channel) (reading : RecorderReading) (n : ℕ) → fault_of c reading ≡ n → (n ≡ 0 → ⊥) → ReadingShows c reading n
reading_shows c (Measured x) n e z = float_shows c (Measured x) x refl n e z
reading_shows c (Substituted x) n e z = float_shows c (Substituted x) x refl n e z
reading_shows c Absent n e z = subst (λ (k : ℕ). ReadingShows c Absent k) e (absent refl)

pub reading_good : (c : Channel) (reading : RecorderReading) → fault_of c reading ≡ 0 → Good c reading
reading_good c (Measured x) e = float_good c (Measured x) x refl e
reading_good c (Substituted x) e = float_good c (Substituted x) x refl e
reading_good c Absent e = absurd (omega arith)

pub all_good : (h : RecorderHour) (cs : List Channel) → All (λ c. fault_of c (reading_of c h) ≡ 0) cs → All (λ c. Good c (reading_of c h)) cs
all_good h [] a = tt
all_good h (c ∷ cs) a = (reading_good c (reading_of c h) a.0, all_good h cs a.1)

-- what a sheet's hour says a channel has recorded
abbrev pub channel_count : Channel → Readings → ℕ
channel_count So2 r = r.so2
channel_count Nox r = r.nox
channel_count Co2 r = r.co2
channel_count Flow r = r.flow

pub count_read : (c : Channel) (sheet : List ℕ) (k : ℕ) → channel_count c (recorded_readings (sheet_hour sheet k)) ≡ sheet_value sheet k (kind_of c)
unfolding sheet_hour_in
count_read So2 sheet k = refl
count_read Nox sheet k = refl
count_read Co2 sheet k = refl
count_read Flow sheet k = thousands_back (sheet_value sheet k flow_kind)

-- a reading that has a float is that float's

pub reads_exact : (reading : RecorderReading) (x : Float) → Reads reading x → unrounded_reading reading ≡ exact_of x
reads_exact (Measured y) x r = ap exact_of r
reads_exact (Substituted y) x r = ap exact_of r
reads_exact Absent x r = absurd r

reads_word : (c : Channel) (reading : RecorderReading) (x : Float) → Reads reading x → word_for c reading ≡ word_of (kind_of c) (units_in (recording_unit c) x)
reads_word c (Measured y) x r = ap (λ (z : Float). word_of (kind_of c) (units_in (recording_unit c) z)) r
reads_word c (Substituted y) x r = ap (λ (z : Float). word_of (kind_of c) (units_in (recording_unit c) z)) r
reads_word c Absent x r = absurd r

abbrev channel_word : Channel → HourWords → ℕ
channel_word So2 w = w.so2
channel_word Nox w = w.nox
channel_word Co2 w = w.co2
channel_word Flow w = w.flow

given_word : (h : RecorderHour) (c : Channel) → channel_word c (words_for h) ≡ word_for c (reading_of c h)
given_word h So2 = refl
given_word h Nox = refl
given_word h Co2 = refl
given_word h Flow = refl

-- the word of a channel in a sheet where an hour's words stand
module _ (h : RecorderHour) (w : HourWords) (g : Given h w) (sheet : List ℕ) (k : ℕ) (stands : StandIn w sheet k) where
  pub stands_at : (c : Channel) → get_or sheet (hour_words * k + kind_of c) 0 ≡ channel_word c w
  stands_at So2 = stands.so2
  stands_at Nox = stands.nox
  stands_at Co2 = stands.co2
  stands_at Flow = stands.flow

  pub good_there : (c : Channel) → Good c (reading_of c h)
  good_there c = reading_good c (reading_of c h) (g.none c)

  abbrev pub units : Channel → ℕ
  units c = (good_there c).units

  pub held : (c : Channel) → units c < value_size
  held c = most_held c (units c) (good_there c).recorded.within.most

  pub stood : (c : Channel) → channel_word c w ≡ word_of (kind_of c) (units c)
  stood c =
      let t = good_there c in
      ap (channel_word c) (sym g.words) ∙ given_word h c ∙ reads_word c (reading_of c h) t.float t.reads
      ∙ ap (word_of (kind_of c)) (sym (records_one c t.float t.units t.recorded))
