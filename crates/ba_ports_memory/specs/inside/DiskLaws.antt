-- Inside: a MemDisk keeps the laws of a disk.
use Rattle.std.specs.Prelude.{◌≡◌, ◌+◌, ◌-◌, ◌/◌, ◌<◌, ◌≤◌, ℕ, Bool, true, false, List, [], ◌∷◌, ◌++◌, length, take, drop, replicate, Some}
use Rattle.std.specs.Prelude.{None, if◌then◌else◌, refl}
use Rattle.std.proofs.Common.{sym, ◌∙◌, ap, subst, ⊎_elim, arith, append_assoc, length-append, length-drop, take-append-drop}
use Rattle.std.proofs.Math.Seq.{take-append_seam, take-append-add}
use Rattle.std.proofs.lemmas.Bool.{cases_lt}
use Rattle.std.proofs.lemmas.Bool.Decides.{nat_tests}
use Rattle.std.proofs.lemmas.List.{append-nil, drop_at, take_all, drop_all, length-replicate, length-take, length-take-le, drop-drop}
use Rattle.ba_ports.specs.Disk.{written_at, Torn, CutShort, Lists, is_counted, if_counted, counted, Armament, KeepsContent}
use Rattle.ba_ports_memory.specs.DiskValue.{MediumValue, DiskValue, course, goes_wrong, put, imaged, all_imaged, bytes_of, LeftOfOne, LeftOf}
use Rattle.ba_ports_memory.specs.DiskValue.{MayBeLeft, after, after_all, step, fails, IsLater, MayHaveBeenLeft, CallsLead, Drives, told_calls}
use Rattle.ba_ports_memory.specs.DiskValue.{rearm}
use Rattle.ba_ports_memory.specs.declared.changes.Change.{Change}
use Rattle.ba_ports_memory.specs.declared.changes.Change.TheVariants as change
use Rattle.ba_ports.specs.declared.images.Image.{Image}
use Rattle.ba_ports.specs.declared.images.Image.TheVariants as image
use Rattle.ba_ports.specs.declared.requests.Call.{Call}
use Rattle.ba_ports.specs.declared.requests.Request.{Request}
use Rattle.ba_ports.specs.declared.requests.Request.TheVariants as request

-- What an image leaves may be left

split : (place count : ℕ) (file : List ℕ) → file ≡ take place file ++ take count (drop place file) ++ drop (place + count) file
split place count file =
    sym (take-append-drop place file)
    ∙ ap (λ (l : List ℕ). take place file ++ l)
    (sym (take-append-drop count (drop place file))
    ∙ ap (λ (l : List ℕ). take count (drop place file) ++ l) (drop-drop count place file))
    ∙ sym (append_assoc (take place file) (take count (drop place file)) (drop (place + count) file))

-- a file that is as it was
pub torn_none : (place count : ℕ) (file : List ℕ) → Torn place count file file
torn_none place count file = record {
  range = take count (drop place file);
  bytes = split place count file;
  no_shorter = omega arith;
  no_longer = omega arith;
}

pub cut_none : (len : ℕ) (file : List ℕ) → CutShort len file file
cut_none len file = record {
  end = len + length file;
  no_shorter = omega arith;
  front = sym (take_all (len + length file) file (omega arith));
}

pub length_written : (place : ℕ) (bytes file : List ℕ) → place ≤ length file
    → length (written_at place bytes file) ≡ place + length bytes + (length file - (place + length bytes))
length_written place bytes file within =
    let front : length (take place file) ≡ place = length-take-le place file within in
    omega (
      arith,
      front,
      length-append (take place file ++ bytes) (drop (place + length bytes) file),
      length-append
          (take place file) bytes,
      length-drop (place + length bytes) file,
    )

pub torn_written : (place count : ℕ) (bytes file : List ℕ) → length bytes ≤ count → place ≤ length file
    → Torn place count file (written_at place bytes file)
torn_written place count bytes file short within =
    let k = length bytes in
    let rest = take (count - k) (drop (place + k) file) in
    let ends : (place + k) + (count - k) ≡ place + count = omega (arith, short) in
    let behind : drop (place + k) file ≡ rest ++ drop (place + count) file =
    sym (take-append-drop (count - k) (drop (place + k) file))
    ∙ ap (λ (l : List ℕ). rest ++ l) (drop-drop (count - k) (place + k) file ∙ ap (λ (n : ℕ). drop n file) ends) in
    let long = length_written place bytes file within in
    record {
      range = bytes ++ rest;
      bytes = ap (λ (l : List ℕ). take place file ++ bytes ++ l) behind
          ∙ sym (append_assoc (take place file ++ bytes) rest (drop (place + count) file))
          ∙ ap (λ (l : List ℕ). l ++ drop (place + count) file) (append_assoc (take place file) bytes rest);
      no_shorter = omega (arith, long);
      no_longer = omega (arith, long, short, within);
    }

pub put_within : (place : ℕ) (bytes file : List ℕ) → place ≤ length file → put place bytes file ≡ written_at place bytes file
put_within place bytes file within = grind (arith, nat_tests)

put_past : (place : ℕ) (bytes file : List ℕ) → length file < place → put place bytes file ≡ file
put_past place bytes file past = grind (arith, nat_tests)

shorter : (n : ℕ) (bytes : List ℕ) → length (take n bytes) ≤ length bytes
shorter n bytes = omega (arith, length-take n bytes)

torn_put : (place count : ℕ) (bytes file : List ℕ) → length bytes ≤ count → Torn place count file (put place bytes file)
torn_put place count bytes file short = ⊎_elim
    (λ past. subst (Torn place count file) (sym (put_past place bytes file past)) (torn_none place count file))
    (λ within. subst (Torn place count file) (sym (put_within place bytes file within)) (torn_written place count bytes file short within))
    (cases_lt (length file) place)

pub left_of_one : (i : Image) (change : Change) (file : List ℕ) → LeftOfOne change file (imaged i change file)
left_of_one image.Old (change.Write place bytes) file = torn_none place (length bytes) file
left_of_one image.New (change.Write place bytes) file = torn_put place (length bytes) bytes file (omega arith)
left_of_one image.Filled (change.Write place bytes) file = torn_put place (length bytes) (replicate (length bytes) 255) file
    (omega (arith, length-replicate {A = ℕ} (length bytes) 255))
left_of_one image.Half (change.Write place bytes) file = torn_put place (length bytes) (take (length bytes / 2) bytes) file
    (shorter (length bytes / 2) bytes)
left_of_one image.Old (change.Cut len) file = cut_none len file
left_of_one image.New (change.Cut len) file = record { end = len; no_shorter = omega arith; front = refl }
left_of_one image.Filled (change.Cut len) file = cut_none len file
left_of_one image.Half (change.Cut len) file = record { end = len + (length file - len) / 2; no_shorter = omega arith; front = refl }

pub left_of_all : (i : Image) (changes : List Change) (file : List ℕ) → LeftOf changes file (all_imaged i changes file)
left_of_all i [] file = refl
left_of_all i (change ∷ changes) file = (imaged i change file, left_of_one i change file, left_of_all i changes (imaged i change file))

pub shown_may_stay : (m : MediumValue) → MayBeLeft m (bytes_of m)
shown_may_stay m = left_of_all image.New m.pending m.synced

-- Later states

pub after_append : (first second : List Call) (m : MediumValue) → after_all (first ++ second) m ≡ after_all second (after_all first m)
after_append [] second m = refl
after_append (call ∷ first) second m = after_append first second (after call.request m)

pub later_none : (m : MediumValue) → IsLater m m
later_none m = ([], sym (append-nil m.calls), refl)

pub later_on : (a b c : MediumValue) → IsLater a b → IsLater b c → IsLater a c
later_on a b c first second = (
  first.0 ++ second.0,
  second.1 ∙ ap (λ (l : List Call). l ++ second.0) first.1 ∙ append_assoc a.calls first.0 second.0,
  second.2 ∙ ap (after_all second.0) first.2 ∙ sym (after_append first.0 second.0 a),
)

pub more_of : (a b : MediumValue) (later : IsLater a b) → drop (length a.calls) b.calls ≡ later.0
more_of a b later = ap (drop (length a.calls)) later.1 ∙ drop_at a.calls later.0 (length a.calls) refl

pub left_now : (a b : MediumValue) (c : List ℕ) → IsLater a b → MayBeLeft b c → MayHaveBeenLeft a b c
left_now a b c later left =
    let all : take (length later.0) (drop (length a.calls) b.calls) ≡ later.0 = ap (take (length later.0)) (more_of a b later)
    ∙ take_all (length later.0) later.0 (omega arith) in
    (length later.0, subst (λ (m : MediumValue). MayBeLeft m c) (later.2 ∙ ap (λ (l : List Call). after_all l a) (sym all)) left)

pub left_only_now : (m : MediumValue) (c : List ℕ) → MayHaveBeenLeft m m c → MayBeLeft m c
left_only_now m c left =
    let none : take left.0 (drop (length m.calls) m.calls) ≡ [] = ap (take left.0) (drop_all (length m.calls) m.calls (omega arith))
    ∙ take_all left.0 [] (omega arith) in
    subst (λ (l : List Call). MayBeLeft (after_all l m) c) none left.1

-- what some of the calls between two states left may have been left between an earlier state and a later one
pub left_widened : (a b c d : MediumValue) (left : List ℕ) → IsLater a b → IsLater b c → IsLater c d → MayHaveBeenLeft b c left
    → MayHaveBeenLeft a d left
unfolding later_on
left_widened a b c d left first second third some =
    let whole = later_on a c d (later_on a b c first second) third in
    let calls : drop (length a.calls) d.calls ≡ first.0 ++ (second.0 ++ third.0) = more_of a d whole
    ∙ append_assoc first.0 second.0 third.0 in
    let made : List Call = take some.0 second.0 in
    let between : MayBeLeft (after_all made b) left = subst (λ (l : List Call). MayBeLeft (after_all (take some.0 l) b) left)
    (more_of b c second) some.1 in
    let short : length made ≤ length second.0 = omega (arith, length-take some.0 second.0) in
    let front : take (length made) (second.0 ++ third.0) ≡ made =
    ap (λ (l : List Call). take (length made) (l ++ third.0)) (sym (take-append-drop some.0 second.0))
    ∙ ap (take (length made)) (append_assoc made (drop some.0 second.0) third.0)
    ∙ take-append_seam made (drop some.0 second.0 ++ third.0) in
    let taken : take (length first.0 + length made) (drop (length a.calls) d.calls) ≡ first.0 ++ made =
    ap (take (length first.0 + length made)) calls ∙ take-append-add first.0 (second.0 ++ third.0) (length made)
    ∙ ap (λ (l : List Call). first.0 ++ l) front in
    let there : after_all (first.0 ++ made) a ≡ after_all made b = after_append first.0 made a ∙ ap (after_all made) (sym first.2) in (
      length first.0 + length made,
      subst (λ (m : MediumValue). MayBeLeft m left)
          (sym (ap (λ (l : List Call). after_all l a) taken ∙ there)) between,
    )

-- Calls that lead on

pub leads_on : (first second : List Call) (a b c : DiskValue) → CallsLead a first b → CallsLead b second c → CallsLead a (first ++ second) c
leads_on [] second a b c before behind = subst (λ (d : DiskValue). CallsLead d second c) before behind
leads_on (call ∷ first) second a b c before behind = (before.0, leads_on first second (step call.request a) b c before.1 behind)

pub stays_fed : (calls : List Call) (a b : DiskValue) → CallsLead a calls b → b.starved ≡ a.starved
stays_fed [] a b leads = ap (λ (d : DiskValue). d.starved) leads
stays_fed (call ∷ calls) a b leads = stays_fed calls (step call.request a) b leads.1

pub drives_on : (first second : List Call) (a b c : DiskValue) → Drives a first b → Drives b second c → Drives a (first ++ second) c
drives_on first second a b c before behind fed =
    let led = behind fed in
    leads_on first second a b c (before (sym (stays_fed second b c led) ∙ fed)) led

one_more : (request : Request) (failed : Bool) (rest : List Call) (m : MediumValue) → failed ≡ fails request m
    → m.calls ++ if_counted (is_counted request) (record { request = request; failed = failed }) rest ≡ (after request m).calls ++ rest
one_more request.Len failed rest m is = refl
one_more (request.ReadAt place room) failed rest m is = refl
one_more (request.WriteAt place bytes) failed rest m is =
    ap (λ (f : Bool). m.calls ++ record { request = request.WriteAt place bytes; failed = f } ∷ rest) is
    ∙ sym (append_assoc m.calls (record { request = request.WriteAt place bytes; failed = goes_wrong (course m) } ∷ []) rest)
one_more (request.Cut len) failed rest m is =
    ap (λ (f : Bool). m.calls ++ record { request = request.Cut len; failed = f } ∷ rest) is
    ∙ sym (append_assoc m.calls (record { request = request.Cut len; failed = goes_wrong (course m) } ∷ []) rest)
one_more request.Sync failed rest m is =
    ap (λ (f : Bool). m.calls ++ record { request = request.Sync; failed = f } ∷ rest) is
    ∙ sym (append_assoc m.calls (record { request = request.Sync; failed = goes_wrong (course m) } ∷ []) rest)

leads_list : (calls : List Call) (a b : DiskValue) → CallsLead a calls b → b.medium.calls ≡ a.medium.calls ++ counted calls
leads_list [] a b leads = ap (λ (d : DiskValue). d.medium.calls) leads ∙ sym (append-nil a.medium.calls)
leads_list (call ∷ calls) a b leads = leads_list calls (step call.request a) b leads.1
    ∙ sym (one_more call.request call.failed (counted calls) a.medium leads.0)

lists_by : (before after : Bool) (xs ys zs : List Call) → (after ≡ false → (before ≡ false) × (ys ≡ xs ++ zs))
    → Lists (if before then None else Some xs) (if after then None else Some ys) zs
lists_by before true xs ys zs told = tt
lists_by true false xs ys zs told = let fed = (told refl).0 in cc
lists_by false false xs ys zs told = (told refl).1

pub lists : (calls : List Call) (a b : DiskValue) → Drives a calls b → Lists (told_calls a) (told_calls b) (counted calls)
lists calls a b drives = lists_by a.starved b.starved a.medium.calls b.medium.calls (counted calls)
    (λ fed. (sym (stays_fed calls a b (drives fed)) ∙ fed, leads_list calls a b (drives fed)))

-- Arming

pub rearmed_keeps : (armament : Armament) (a : DiskValue)
    → KeepsContent (λ (d : DiskValue). true) (λ (d : DiskValue). bytes_of d.medium) (λ (d : DiskValue). MayBeLeft d.medium) told_calls
    (λ (d : DiskValue). d.faults) a (rearm armament a)
rearmed_keeps armament a =
    record {
      follows_same = refl;
      seen_same = refl;
      no_more = λ c left. left;
      no_fewer = λ c left. left;
      calls_same = refl;
      faults_same = refl;
    }

pub keeps_rearmed : (armament : Armament) (a b : DiskValue) → b ≡ rearm armament a
    → KeepsContent (λ (d : DiskValue). true) (λ (d : DiskValue). bytes_of d.medium) (λ (d : DiskValue). MayBeLeft d.medium) told_calls
    (λ (d : DiskValue). d.faults) a b
keeps_rearmed armament a b same =
    subst (λ (d : DiskValue). KeepsContent (λ (d : DiskValue). true) (λ (d : DiskValue). bytes_of d.medium)
    (λ (d : DiskValue). MayBeLeft d.medium) told_calls (λ (d : DiskValue). d.faults) a d) (sym same) (rearmed_keeps armament a)
