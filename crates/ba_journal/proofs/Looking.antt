-- Calls that only look, one after another.
use Rattle.std.proofs.Common.{append_assoc, ◌≡◌, inr, ⊎_elim, ℕ, ◌≤◌, Bool, true, false, List, [], ◌∷◌, ◌++◌, Result, Ok, Err, IfErr, refl}
use Rattle.std.proofs.Common.{sym, ap, ◌∙◌, subst, IsTrue, arith}
use Rattle.ba_ports.specs.Disk.{NoMore, LeavesOnly, Passes, called, counted, if_counted, is_counted}
use Rattle.ba_ports.specs.declared.requests.Call.{Call}
use Rattle.ba_ports.proofs.Moments.{started, goes_on}
use Rattle.ba_ports.specs.declared.requests.Request.{Request}
use Rattle.ba_journal.specs.Loads.{EndsFailed}
use Rattle.ba_journal.specs.inside.Looks.{Looked, BreaksOff}

joined : (t : Bool) (call : Call) (a b : List Call) → if_counted t call (a ++ b) ≡ if_counted t call a ++ b
joined true call a b = refl
joined false call a b = refl

counted-append : (a b : List Call) → counted (a ++ b) ≡ counted a ++ counted b
counted-append [] b = refl
counted-append (call ∷ a) b = ap (if_counted (is_counted call.request) call) (counted-append a b)
    ∙ joined (is_counted call.request) call (counted a) (counted b)

pub ends_failed_on : (first second : List Call) → EndsFailed second → EndsFailed (first ++ second)
ends_failed_on first second (before, request, is) = (
  first ++ before,
  request,
  ap (λ (cs : List Call). first ++ cs) is
      ∙ sym (append_assoc first before (record { request = request; failed = true } ∷ [])),
)

-- what holds in any case holds at an error
pub at_err : {T E : Type 0} {P : Type 0} (result : Result T E) → P → IfErr result (λ why. P)
at_err (Ok done) p = tt
at_err (Err why) p = p

module _ {D : Type 0} (follows : D → Bool) (seen : D → List ℕ) (may_leave : D → List ℕ → Type 0) (later : D → D → Type 0) (left_between : D
    → D → List ℕ → Type 0) (driven : D → List Call → D → Type 0) (faults : D → ℕ) where
  abbrev Look : D → D → Type 0
  Look = Looked follows seen may_leave later left_between driven faults

  -- no call
  pub looked_none : ((d : D) → later d d) → ((d : D) (c : List ℕ) → left_between d d c → may_leave d c) → ((d : D) → driven d [] d)
      → (d : D) → Look d d
  looked_none self only none d = record {
    follows_same = refl;
    seen_same = λ f. refl;
    no_more = λ f c left. left;
    moments = λ f. started later left_between d (may_leave d) (self d) (only d);
    calls = ([], none d, refl);
    faults_later = omega arith;
  }

  -- one call
  pub looked_once : ((d : D) → later d d) → ((d : D) (c : List ℕ) → left_between d d c → may_leave d c)
      → ((a b c : D) → later a b → later b c → later a c)
      → (old new : D) (call : Call) → is_counted call.request ≡ false → follows new ≡ follows old
      → (IsTrue (follows old) → seen new ≡ seen old)
      → (IsTrue (follows old) → NoMore (may_leave old) (may_leave new))
      → (IsTrue (follows old) → Passes later left_between (may_leave old) old new) → driven old (call ∷ []) new
      → faults old ≤ faults new → Look old new
  looked_once self only join old new call free same shows leaves passes drove up = record {
    follows_same = same;
    seen_same = shows;
    no_more = leaves;
    moments = λ f. goes_on later left_between old old new (may_leave old) (may_leave old) join
        (started later left_between old (may_leave old) (self old) (only old)) (passes f) (λ c was. was);
    calls = (call ∷ [], drove, ap (λ (t : Bool). if_counted t call []) free);
    faults_later = up;
  }

  moments_on : ((a b c : D) → later a b → later b c → later a c) → (a b c : D) → NoMore (may_leave a) (may_leave b)
      → LeavesOnly later left_between a b (may_leave a)
      → LeavesOnly later left_between b c (may_leave b) → LeavesOnly later left_between a c (may_leave a)
  moments_on join a b c fewer first second = record {
    goes_on = join a b c first.goes_on second.goes_on;
    each = λ left is. ⊎_elim (first.each left) (fewer left) (second.before a left first.goes_on is);
    before = λ d left earlier is. ⊎_elim (first.before d left earlier) (λ now. inr (fewer left now))
        (second.before d left (join d a b earlier first.goes_on) is);
  }

  -- one after another
  pub looked_on : ((a b c : D) → later a b → later b c → later a c)
      → ((a b c : D) (first second : List Call) → driven a first b → driven b second c → driven a (first ++ second) c)
      → (a b c : D) → Look a b → Look b c → Look a c
  looked_on join drives a b c first second =
      let on : IsTrue (follows a) → IsTrue (follows b) = subst IsTrue (sym first.follows_same) in
      record {
        follows_same = second.follows_same ∙ first.follows_same;
        seen_same = λ f. second.seen_same (on f) ∙ first.seen_same f;
        no_more = λ f left now. first.no_more f left (second.no_more (on f) left now);
        moments = λ f. moments_on join a b c (first.no_more f) (first.moments f) (second.moments (on f));
        calls = (
          first.calls.0 ++ second.calls.0,
          drives a b c first.calls.0 second.calls.0 first.calls.1 second.calls.1,
          counted-append first.calls.0 second.calls.0 ∙ ap (λ l. l ++ counted second.calls.0) first.calls.2 ∙ second.calls.2,
        );
        faults_later = omega (arith, first.faults_later, second.faults_later);
      }

  -- one call that failed
  pub broke_once : (old new : D) (request : Request) → is_counted request ≡ false
      → driven old (record { request = request; failed = true } ∷ []) new → BreaksOff driven old new
  broke_once old new request free drove = (
    record { request = request; failed = true } ∷ [],
    drove,
    ap (λ (t : Bool). if_counted t (record { request = request; failed = true }) []) free,
    ([], request, refl),
  )

  pub broke_by : {T E : Type 0} (old new : D) (request : Request) (result : Result T E) → is_counted request ≡ false
      → driven old (called request result ∷ []) new
      → IfErr result (λ why. BreaksOff driven old new)
  broke_by old new request (Ok done) free drove = tt
  broke_by old new request (Err why) free drove = broke_once old new request free drove

  -- looks, and then others of which the last failed
  pub broke_on : ((a b c : D) (first second : List Call) → driven a first b → driven b second c → driven a (first ++ second) c)
      → (a b c : D) → Look a b → BreaksOff driven b c → BreaksOff driven a c
  broke_on drives a b c first (made, drove, none, ends) = (
    first.calls.0 ++ made,
    drives a b c first.calls.0 made first.calls.1 drove,
    counted-append first.calls.0 made ∙ ap (λ l. l ++ counted made) first.calls.2 ∙ none,
    ends_failed_on first.calls.0 made ends,
  )
