-- How the events of a world were played so far, and how a play goes on with its next one or breaks off there: for `play_events`.
use Rattle.std.proofs.Common.{◌≡◌, ℕ, ◌+◌, ◌<◌, List, [], ◌∷◌, ◌++◌, map, drop, get_or, length, Option, None, Some, Result, Ok, Err, IfOk}
use Rattle.std.proofs.Common.{refl, sym, ap, ◌∙◌, subst, append-nil, append_assoc, drop-cons, add-one}
use Rattle.ba_world_events.specs.Events.{NumberedEvent}
use Rattle.ba_world_events.specs.declared.outcomes.Outcome.{Outcome}
use Rattle.ba_world_play.specs.Plays.{EventEffect, WorldOnDisks, play_step, starting_play}
use Rattle.ba_world_play.specs.Shows.{Story, event_line, story, story_by, story_from}
use Rattle.ba_world_play.specs.declared.missing.Missing.{Missing}
use Rattle.ba_world_runs.specs.World.{World}
use Rattle.ba_world.specs.Worlds.{IsPlayedAs, IsWorldOf, WorldValue}
use Rattle.ba_world.specs.declared.faults.StepFault.{StepFault}
use Rattle.ba_world.specs.declared.faults.StepFault.TheVariants as fault
use Rattle.ba_cmd_replay.proofs.Shown.{first_held}
use Rattle.ba_cmd_replay.specs.Replay.{halt_at}
use Rattle.ba_cmd_replay.specs.WorldReplay.{WritesFirstOf}
use Rattle.ba_cmd_replay.specs.declared.plays.PlayFault.{PlayFault}
use Rattle.ba_cmd_replay.specs.declared.plays.PlayFault.TheVariants as played
use Rattle.ba_cmd_replay.specs.declared.world_plays.Played.{Played}
use Rattle.ba_cmd_replay.specs.inside.WorldPlays.{HoldsRest, IsLeftAt, AreLinesShown, LedTo}

-- Of a story these lines are shown; this is the world after them; and these events come yet.
pub record PlayedTo (whole : Story) (v : WorldValue) (lines : List (List ℕ)) (events : List NumberedEvent) : Type 0 where
  pub now : WorldOnDisks
  pub before : List World
  pub is : IsWorldOf v now
  pub shown : map event_line whole.lines ≡ lines ++ map event_line (story_from before now events).lines
  pub last : whole.last ≡ (story_from before now events).last
  pub halt : whole.halt ≡ (story_from before now events).halt

pub none_played : (v : WorldValue) (count : ℕ) (events : List NumberedEvent) → IsWorldOf v (starting_play count)
    → PlayedTo (story count events) v [] events
none_played v count events is = record { now = starting_play count; before = []; is = is; shown = refl; last = refl; halt = refl }

-- the next event was played
by_effect : (whole : Story) (v w : WorldValue) (lines : List (List ℕ)) (e : NumberedEvent) (more : List NumberedEvent) (o : Outcome)
    → (done : PlayedTo whole v lines (e ∷ more)) (effect : EventEffect) → play_step done.now e.1 ≡ effect
    → IsPlayedAs effect v w (Ok o) → PlayedTo whole w (lines ++ event_line (e.0, o) ∷ []) more
by_effect whole v w lines e more o done (Err why) is led = absurd led
by_effect whole v w lines e more o done (Ok effect) is led =
    let rest = λ (after : WorldOnDisks). story_from (done.now.world ∷ done.before) after more in
    let next : story_from done.before done.now (e ∷ more) ≡ story_by done.before done.now e.0 (Ok effect) rest =
    ap (λ (a : EventEffect). story_by done.before done.now e.0 a rest) is in
    let later = rest effect.after in
    record {
      now = effect.after;
      before = done.now.world ∷ done.before;
      is = led.1;
      shown = done.shown ∙ ap (λ (s : Story). lines ++ map event_line s.lines) next
          ∙ ap (λ (x : Outcome). lines ++ event_line (e.0, x) ∷ map event_line later.lines) (sym led.0)
          ∙ sym (append_assoc lines (event_line (e.0, o) ∷ []) (map event_line later.lines));
      last = done.last ∙ ap (λ (s : Story). s.last) next;
      halt = done.halt ∙ ap (λ (s : Story). s.halt) next;
    }

pub plays_on : (whole : Story) (v w : WorldValue) (lines : List (List ℕ)) (e : NumberedEvent) (more : List NumberedEvent) (o : Outcome)
    → PlayedTo whole v lines (e ∷ more)
    → ((p : WorldOnDisks) → IsWorldOf v p → IsPlayedAs (play_step p e.1) v w (Ok o))
    → PlayedTo whole w (lines ++ event_line (e.0, o) ∷ []) more
plays_on whole v w lines e more o done plays =
    by_effect whole v w lines e more o done (play_step done.now e.1) refl (plays done.now done.is)

-- the next event can't be played
pub record HaltsHere (whole : Story) (w : WorldValue) (lines : List (List ℕ)) (number : ℕ) (why : Missing) : Type 0 where
  pub is : IsWorldOf w whole.last
  pub halt : whole.halt ≡ Some (halt_at number why)
  pub shown : map event_line whole.lines ≡ lines

halts_by : (whole : Story) (v w : WorldValue) (lines : List (List ℕ)) (e : NumberedEvent) (more : List NumberedEvent) (why : Missing)
    → (done : PlayedTo whole v lines (e ∷ more)) (effect : EventEffect) → play_step done.now e.1 ≡ effect
    → IsPlayedAs effect v w (Err (fault.Missing why)) → HaltsHere whole w lines e.0 why
halts_by whole v w lines e more why done (Ok effect) is led = absurd led
halts_by whole v w lines e more why done (Err due) is led =
    let rest = λ (after : WorldOnDisks). story_from (done.now.world ∷ done.before) after more in
    let next : story_from done.before done.now (e ∷ more) ≡ story_by done.before done.now e.0 (Err due) rest =
    ap (λ (a : EventEffect). story_by done.before done.now e.0 a rest) is in
    let last : whole.last ≡ done.now = done.last ∙ ap (λ (s : Story). s.last) next in
    record {
      is = subst (λ (x : WorldValue). IsWorldOf x whole.last) (sym led.1) (subst (IsWorldOf v) (sym last) done.is);
      halt = done.halt ∙ ap (λ (s : Story). s.halt) next ∙ ap (λ (m : Missing). Some (halt_at e.0 m)) (sym led.0);
      shown = done.shown ∙ ap (λ (s : Story). lines ++ map event_line s.lines) next ∙ append-nil lines;
    }

pub halts_here : (whole : Story) (v w : WorldValue) (lines : List (List ℕ)) (e : NumberedEvent) (more : List NumberedEvent) (why : Missing)
    → PlayedTo whole v lines (e ∷ more)
    → ((p : WorldOnDisks) → IsWorldOf v p → IsPlayedAs (play_step p e.1) v w (Err (fault.Missing why)))
    → HaltsHere whole w lines e.0 why
halts_here whole v w lines e more why done plays =
    halts_by whole v w lines e more why done (play_step done.now e.1) refl (plays done.now done.is)

-- ---- where the events end

pub all_played : (whole : Story) (v : WorldValue) (lines : List (List ℕ)) → PlayedTo whole v lines []
    → LedTo whole (record { world = v; halt = None })
all_played whole v lines done = record { is = subst (IsWorldOf v) (sym done.last) done.is; halt = done.halt }

pub all_shown : (whole : Story) (v : WorldValue) (lines : List (List ℕ)) → PlayedTo whole v lines [] → map event_line whole.lines ≡ lines
all_shown whole v lines done = done.shown ∙ append-nil lines

-- ---- the event wasn't played

-- what is left at the event: where the play halted there, all of it was played
pub left_led : (whole : Story) (v w : WorldValue) (lines : List (List ℕ)) (e : NumberedEvent) (more : List NumberedEvent) (why : StepFault)
    (r : Result Played PlayFault) → PlayedTo whole v lines (e ∷ more)
    → ((p : WorldOnDisks) → IsWorldOf v p → IsPlayedAs (play_step p e.1) v w (Err why))
    → IsLeftAt w e.0 why r → IfOk r (LedTo whole)
left_led whole v w lines e more (fault.Missing why) (Ok done) so_far plays left =
    let here = halts_here whole v w lines e more why so_far plays in
    subst (LedTo whole) (sym left) (record { is = here.is; halt = here.halt })
left_led whole v w lines e more (fault.Missing why) (Err broke) so_far plays left = tt
left_led whole v w lines e more fault.Memory (Ok done) so_far plays left = absurd left
left_led whole v w lines e more fault.Memory (Err broke) so_far plays left = tt

memory_shown : (lines : List (List ℕ)) (text : List ℕ) (a b : Option (List ℕ)) (t : List ℕ) (broke : PlayFault) (v : WorldValue)
    (number : ℕ)
    → WritesFirstOf lines a b → IsLeftAt v number fault.Memory (Err broke) → AreLinesShown {A = Played} lines a b t (Err broke)
memory_shown lines text a b t played.Memory v number first left = first
memory_shown lines text a b t played.Write v number first left = absurd left
memory_shown lines text a b t (played.NoSuchName n) v number first left = absurd left
memory_shown lines text a b t (played.NoSuchMessage n) v number first left = absurd left

pub left_shown : (whole : Story) (v w : WorldValue) (lines : List (List ℕ)) (e : NumberedEvent) (more : List NumberedEvent)
    (why : StepFault)
    (r : Result Played PlayFault) (text t : List ℕ) (a b : Option (List ℕ)) → PlayedTo whole v lines (e ∷ more)
    → ((p : WorldOnDisks) → IsWorldOf v p → IsPlayedAs (play_step p e.1) v w (Err why))
    → IsLeftAt w e.0 why r → HoldsRest (text ∷ lines) a b t → AreLinesShown (text ∷ map event_line whole.lines) a b t r
left_shown whole v w lines e more (fault.Missing why) (Ok done) text t a b so_far plays left held =
    let here = halts_here whole v w lines e more why so_far plays in
    subst (λ (ls : List (List ℕ)). HoldsRest (text ∷ ls) a b t) (sym here.shown) held
left_shown whole v w lines e more (fault.Missing why) (Err broke) text t a b so_far plays left held = absurd left
left_shown whole v w lines e more fault.Memory (Ok done) text t a b so_far plays left held = absurd left
left_shown whole v w lines e more fault.Memory (Err broke) text t a b so_far plays left held =
    memory_shown (text ∷ map event_line whole.lines) text a b t broke w e.0
    (subst (λ (ls : List (List ℕ)). WritesFirstOf (text ∷ ls) a b) (sym so_far.shown)
    (first_held (text ∷ lines) (map event_line (story_from so_far.before so_far.now (e ∷ more)).lines) a b t held)) left

-- ---- the events by their numbers

pub events_at : (events : List NumberedEvent) (at : ℕ) (none : NumberedEvent) → at < length events
    → drop at events ≡ get_or events at none ∷ drop (at + 1) events
events_at events at none within = drop-cons events at none within ∙ ap (λ n. get_or events at none ∷ drop n events) (sym (add-one at))
