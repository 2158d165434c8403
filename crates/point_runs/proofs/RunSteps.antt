-- What one more tick makes of the ticks in which a test holds.
use Rattle.std.proofs.Common.{◌≡◌, inl, inr, ℕ, zero, suc, ◌+◌, ◌-◌, ◌≤◌, ◌<◌, ◌==◌, ◌&&◌, nat_le, nat_lt, Bool, true, false, refl, sym, ◌∙◌, ap, subst, arith, if◌then◌else◌}
use Rattle.std.proofs.lemmas.Bool.Decides.{nat_tests}
use Rattle.std.proofs.lemmas.Bool.{cases_lt}
use Rattle.point_runs.specs.declared.point_run.PointRun.{PointRun}
use Rattle.point_runs.specs.Runs.{HoldsForRound, IsLastRound, RunStands, held_at, run_after, runs_end}

differ : (b : Bool) → b ≡ true → b ≡ false → ⊥
differ true p q = cc
differ false p q = cc

not_none : (n : ℕ) → (suc n == 0) ≡ false
not_none n = grind (arith, nat_tests)

some_lt : (n : ℕ) → nat_lt 0 (suc n) ≡ true
some_lt n = grind (arith, nat_tests)

-- a test that is the same in the ticks up to the last one
module _ (one other : ℕ → Bool) (now : ℕ) (same : (tick : ℕ) → tick ≤ now → one tick ≡ other tick) where
  round_same : (round first last : ℕ) → last ≤ now + 1 → first + round ≤ last → HoldsForRound one round first → HoldsForRound other round first
  round_same round first last by ended holds tick low high =
      sym (same tick (omega (arith, by, ended, high))) ∙ holds tick low high

  round_back : (round first last : ℕ) → last ≤ now + 1 → first + round ≤ last → HoldsForRound other round first → HoldsForRound one round first
  round_back round first last by ended holds tick low high = same tick (omega (arith, by, ended, high)) ∙ holds tick low high

  last_same : (round last first : ℕ) → last ≤ now + 1 → IsLastRound one round last first → IsLastRound other round last first
  last_same round last first by is = record {
    holds = λ begun. round_same round first last by (is.ended begun) (is.holds begun);
    ended = is.ended;
    latest = λ another begun ended holds. is.latest another begun ended (round_back round another last by ended holds);
  }

  ends_by : (run : PointRun) → run.since ≤ now → runs_end now run ≤ now + 1
  ends_by run by = go (run.since == 0)
    where
      go : (b : Bool) → (if b then now + 1 else run.since) ≤ now + 1
      go true = omega arith
      go false = omega (arith, by)

  pub run_same : (round : ℕ) (run : PointRun) → RunStands one round now run → RunStands other round now run
  run_same round run stands = record {
    lasts = sym (same now (omega arith)) ∙ stands.lasts;
    by = stands.by;
    through = λ tick some low high. sym (same tick high) ∙ stands.through tick some low high;
    begins = λ some. sym (same (run.since - 1) (let b = stands.by in omega (arith, b))) ∙ stands.begins some;
    held = last_same round (runs_end now run) run.held (ends_by run stands.by) stands.held;
  }

module _ (test : ℕ → Bool) (round now : ℕ) (some : 1 ≤ round) where
  -- before the first tick
  pub none_yet : test 0 ≡ false → RunStands test round 0 (record { since = 0; held = 0 })
  none_yet first = record {
    lasts = first;
    by = omega arith;
    through = λ tick begun low high. absurd (omega (arith, begun));
    begins = λ begun. absurd (omega (arith, begun));
    held = record {
      holds = λ begun. absurd (omega (arith, begun));
      ended = λ begun. absurd (omega (arith, begun));
      latest = λ other begun ended holds. absurd (omega (arith, begun, ended, some));
    };
  }

  -- the last round that has ended
  pub held_is : (run : PointRun) → RunStands test round now run → IsLastRound test round (now + 1) (held_at round now run)
  held_is run stands = go run.since refl
    where
      begun_after : (other since : ℕ) → run.since ≡ since → 1 ≤ since → now - since < round - 1 → 1 ≤ other → other + round ≤ now + 1
          → HoldsForRound test round other → other + round ≤ since
      begun_after other since is one short begun ended holds =
          elim (cases_lt since (other + round)) [
            | inl past ↦
                elim (cases_lt other since) [
                  | inl before ↦
                      absurd
                      (differ (test (run.since - 1)) (holds (run.since - 1) (omega (arith, is, before)) (omega (arith, is, past, one)))
                      (stands.begins (omega (arith, is, one))))
                  | inr after ↦ absurd (omega (arith, after, ended, short))
                ]
            | inr within ↦ within
          ]

      lasting : (since : ℕ) → run.since ≡ since → 1 ≤ since → (b : Bool) → nat_le (round - 1) (now - since) ≡ b
          → IsLastRound test round since run.held
          → IsLastRound test round (now + 1) (if b then now - (round - 1) else run.held)
      lasting since is one true long before =
          let by = stands.by in
          let far : round - 1 ≤ now - since = grind (arith, nat_tests, long) in
          record {
            holds = λ begun tick low high. stands.through tick (omega (arith, is, one)) (omega (arith, is, far, low, by, some))
                (omega (arith, high, is, far, by, some));
            ended = λ begun. omega (arith, far, some, by, begun);
            latest = λ other begun ended holds. omega (arith, ended, some);
          }
      lasting since is one false short before =
          let near : now - since < round - 1 = grind (arith, nat_tests, short) in
          let by = stands.by in
          record {
            holds = before.holds;
            ended = λ begun. (let e = before.ended begun in omega (arith, e, is, by));
            latest = λ other begun ended holds. before.latest other begun (begun_after other since is one near begun ended holds) holds;
          }

      go : (since : ℕ) → run.since ≡ since → IsLastRound test round (now + 1) (held_at round now run)
      go zero is =
          let end : runs_end now run ≡ now + 1 = ap (λ s. if s == 0 then now + 1 else s) is in
          let value : held_at round now run ≡ run.held =
          ap (λ s. if nat_lt 0 s && nat_le (round - 1) (now - s) then now - (round - 1) else run.held) is in
          subst (λ h. IsLastRound test round (now + 1) h) (sym value) (subst (λ e. IsLastRound test round e run.held) end stands.held)
      go (suc n) is =
          let end : runs_end now run ≡ suc n =
          ap (λ s. if s == 0 then now + 1 else s) is ∙ ap (λ b. if b then now + 1 else suc n) (not_none n) in
          let value : held_at round now run ≡ (if nat_le (round - 1) (now - suc n) then now - (round - 1) else run.held) =
          ap (λ s. if nat_lt 0 s && nat_le (round - 1) (now - s) then now - (round - 1) else run.held) is
          ∙ ap (λ b. if b && nat_le (round - 1) (now - suc n) then now - (round - 1) else run.held) (some_lt n) in
          subst (λ h. IsLastRound test round (now + 1) h) (sym value)
          (lasting (suc n) is (omega arith) (nat_le (round - 1) (now - suc n)) refl (subst (λ e. IsLastRound test round e run.held) end stands.held))

  -- a tick in which the test doesn't hold ends no round
  gap : (held : ℕ) → test (now + 1) ≡ false → IsLastRound test round (now + 1) held → IsLastRound test round (now + 1 + 1) held
  gap held off is = record {
    holds = is.holds;
    ended = λ begun. (let e = is.ended begun in omega (arith, e));
    latest = λ other begun ended holds.
        elim (cases_lt (now + 1) (other + round)) [
          | inl past ↦
              absurd (differ (test (now + 1)) (holds (now + 1) (omega (arith, ended, some)) (omega (arith, past))) off)
          | inr within ↦ is.latest other begun within holds
        ];
  }

  -- one more tick
  pub next_tick : (run : PointRun) (b : Bool) → test (now + 1) ≡ b → RunStands test round now run
      → RunStands test round (now + 1) (run_after round (now + 1) b run)
  next_tick run false off stands =
      let back : now + 1 - 1 ≡ now = omega arith in
      subst (λ n. RunStands test round (now + 1) (record { since = 0; held = held_at round n run })) (sym back)
      (record {
        lasts = off;
        by = omega arith;
        through = λ tick begun low high. absurd (omega (arith, begun));
        begins = λ begun. absurd (omega (arith, begun));
        held = gap (held_at round now run) off (held_is run stands);
      })
  next_tick run true on stands = go run.since refl
    where
      go : (since : ℕ) → run.since ≡ since → RunStands test round (now + 1) (if run.since == 0 then record { since = now + 1; held = run.held } else run)
      go zero is =
          let begun : (if run.since == 0 then record { since = now + 1; held = run.held } else run) ≡ record { since = now + 1; held = run.held } =
          ap (λ s. if s == 0 then record { since = now + 1; held = run.held } else run) is in
          let end : runs_end now run ≡ now + 1 = ap (λ s. if s == 0 then now + 1 else s) is in
          let end_now : runs_end (now + 1) (record { since = now + 1; held = run.held }) ≡ now + 1 = not_zero (now + 1) (now + 1 + 1) (omega arith) in
          let positive : nat_lt 0 (now + 1) ≡ true = grind (arith, nat_tests) in
          let back : now + 1 - 1 ≡ now = omega arith in
          let calm : test now ≡ false = stands.lasts ∙ ap (nat_lt 0) is in
          subst (RunStands test round (now + 1)) (sym begun)
          (record {
            lasts = on ∙ sym positive;
            by = omega arith;
            through = λ tick some low high. subst (λ t. test t ≡ true) (omega (arith, low, high)) on;
            begins = λ some. ap test back ∙ calm;
            held = subst (λ e. IsLastRound test round e run.held) (end ∙ sym end_now) stands.held;
          })
        where
          not_zero : (n other : ℕ) → 1 ≤ n → (if n == 0 then other else n) ≡ n
          not_zero zero other l = absurd (omega (arith, l))
          not_zero (suc n) other l = ap (λ b. if b then other else suc n) (not_none n)
      go (suc n) is =
          let goes_on : (if run.since == 0 then record { since = now + 1; held = run.held } else run) ≡ run =
          ap (λ s. if s == 0 then record { since = now + 1; held = run.held } else run) is
          ∙ ap (λ b. if b then record { since = now + 1; held = run.held } else run) (not_none n) in
          let end : runs_end now run ≡ runs_end (now + 1) run =
          ap (λ s. if s == 0 then now + 1 else s) is ∙ ap (λ b. if b then now + 1 else suc n) (not_none n)
          ∙ sym (ap (λ s. if s == 0 then now + 1 + 1 else s) is ∙ ap (λ b. if b then now + 1 + 1 else suc n) (not_none n)) in
          let positive : nat_lt 0 run.since ≡ true = ap (nat_lt 0) is ∙ some_lt n in
          let by = stands.by in
          subst (RunStands test round (now + 1)) (sym goes_on)
          (record {
            lasts = on ∙ sym positive;
            by = omega (arith, by);
            through = λ tick some low high.
                elim (cases_lt now tick) [
                  | inl past ↦ subst (λ t. test t ≡ true) (omega (arith, past, high)) on
                  | inr within ↦ stands.through tick some low within
                ];
            begins = stands.begins;
            held = subst (λ e. IsLastRound test round e run.held) end stands.held;
          })

  -- a tick that changes nothing leaves the run as it is
  pub same_tick : (run : PointRun) → test (now + 1) ≡ test now → RunStands test round now run → RunStands test round (now + 1) run
  same_tick run same stands = go run.since refl (next_tick run (test (now + 1)) refl stands)
    where
      go : (since : ℕ) → run.since ≡ since → RunStands test round (now + 1) (run_after round (now + 1) (test (now + 1)) run)
          → RunStands test round (now + 1) run
      go zero is next =
          let off : test (now + 1) ≡ false = same ∙ stands.lasts ∙ ap (nat_lt 0) is in
          let back : now + 1 - 1 ≡ now = omega arith in
          let value : held_at round (now + 1 - 1) run ≡ run.held =
          ap (λ s. if nat_lt 0 s && nat_le (round - 1) (now + 1 - 1 - s) then now + 1 - 1 - (round - 1) else run.held) is in
          let unchanged : run_after round (now + 1) (test (now + 1)) run ≡ run =
          ap (λ b. run_after round (now + 1) b run) off ∙ fields 0 (held_at round (now + 1 - 1) run) is value in
          subst (RunStands test round (now + 1)) unchanged next
        where
          fields : (zero_one held : ℕ) → run.since ≡ 0 → held ≡ run.held → (let r : PointRun = record { since = 0; held = held } in r) ≡ run
          fields zero_one held zero_since e =
              ap (λ s. let r : PointRun = record { since = s; held = held } in r) (sym zero_since)
              ∙ ap (λ h. let r : PointRun = record { since = run.since; held = h } in r) e
      go (suc n) is next =
          let on : test (now + 1) ≡ true = same ∙ stands.lasts ∙ ap (nat_lt 0) is ∙ some_lt n in
          let unchanged : run_after round (now + 1) (test (now + 1)) run ≡ run =
          ap (λ b. run_after round (now + 1) b run) on ∙ ap (λ s. if s == 0 then record { since = now + 1; held = run.held } else run) is
          ∙ ap (λ b. if b then record { since = now + 1; held = run.held } else run) (not_none n) in
          subst (RunStands test round (now + 1)) unchanged next

-- what the code keeps is what a run after a tick is
pub after_stands : (test : ℕ → Bool) (round before now : ℕ) (holds : Bool) (run result : PointRun) → result ≡ run_after round now holds run → 1 ≤ round
    → before + 1 ≡ now → test now ≡ holds → RunStands test round before run → RunStands test round now result
after_stands test round before now holds run result is some one at stands =
    subst (RunStands test round now) (sym is)
    (subst (λ n. RunStands test round n (run_after round n holds run)) one
    (next_tick test round before some run holds (ap test one ∙ at) stands))

pub held_last : (test : ℕ → Bool) (round now result : ℕ) (run : PointRun) → result ≡ held_at round now run → 1 ≤ round → RunStands test round now run
    → IsLastRound test round (now + 1) result
held_last test round now result run is some stands =
    subst (IsLastRound test round (now + 1)) (sym is) (held_is test round now some run stands)
