-- Where bytes are refused by what is written: the bytes before the place are taken, each of them, and why the one at it isn't.
use Rattle.std.proofs.Common.{◌≡◌, ℕ, ◌+◌, ◌<◌, suc, Bool, true, false, cond, ◌==◌, nat_lt, ◌⊎◌, inl, inr, Option, Some, None, Result}
use Rattle.std.proofs.Common.{Ok, Err}
use Rattle.std.proofs.Common.{List, [], ◌∷◌, ◌++◌, length, take, IsUtf8, refl, sym, ap, subst, ◌∙◌, arith, append_assoc, append-nil}
use Rattle.ba_tree.specs.declared.trees.Tree.{Tree}
use Rattle.ba_xml_places.proofs.Live.{IsOfState, Live}
use Rattle.ba_xml_places.proofs.Utf8.{passed_utf8, syntax_utf8, no_early}
use Rattle.ba_xml_places.proofs.Viable.{IsReached, returned_step, reached, tail, tail_octets, viable}
use Rattle.ba_xml_places.specs.inside.Taken.{IsTaken}
use Rattle.ba_xml_reader.proofs.CompleteCharacters.{octets, octets_append}
use Rattle.ba_xml_reader.proofs.CompleteLayers.{run_none, run_one, scanned}
use Rattle.ba_xml_reader.proofs.CompleteUtf8.{utf8_passed}
use Rattle.ba_xml_reader.proofs.Dead.{IsOfWriting, dead, run_refused}
use Rattle.ba_xml_reader.proofs.SoundBack.{back}
use Rattle.ba_xml_reader.proofs.SoundDocuments.{top}
use Rattle.ba_xml_grammar.specs.GrammarTexts.{CanContinue}
use Rattle.ba_xml_grammar.specs.Places.{IsDead, BeginsUtf8, IsCause}
use Rattle.ba_xml_reader.specs.inside.Machine.{start, run, unless_returned, turned, turned_by, turned_from, counted, reason_at, reason_past}
use Rattle.ba_xml_reader.specs.inside.Machine.{finished}
use Rattle.ba_xml_reader.specs.inside.Machine.{answer_by, answer_of, xml_answer}
use Rattle.ba_xml_words.specs.inside.Octets.{octet_after}
use Rattle.ba_xml_words.specs.declared.faults.Reason.{Reason}
use Rattle.ba_xml_words.specs.declared.faults.Reason.TheVariants as reason
use Rattle.ba_xml_words.specs.declared.faults.XmlFault.{XmlFault}
use Rattle.ba_xml_words.specs.declared.faults.XmlFault.TheVariants as fault
use Rattle.ba_xml_words.specs.declared.octets.Decoding.{Decoding}
use Rattle.ba_xml_words.specs.declared.octets.Decoding.TheVariants as decoding
use Rattle.ba_xml_words.specs.declared.octets.Octet.{Octet}
use Rattle.ba_xml_words.specs.declared.octets.Octet.TheVariants.{Between}
use Rattle.ba_xml_reader.specs.declared.machine.Scan.{Scan}
use Rattle.ba_xml_reader.specs.declared.states.Mode.TheVariants as mode
use Rattle.ba_xml_reader.specs.declared.states.State.{State}
use Rattle.ba_xml_reader.specs.declared.states.State.TheVariants as state
use Rattle.ba_xml_reader.specs.inside.Turns.{Turn}
use Rattle.ba_xml_reader.specs.inside.Turns as turn
use Rattle.ba_xml_reader.specs.inside.Readings.{Reading}
use Rattle.ba_xml_reader.specs.inside.Readings as reading

-- ---- what an answer says of the run

abbrev Told : Reading → Reason → ℕ → Type 0
Told x r n = answer_of x ≡ Err (fault.At r n)

pub same_fault : (x r : Reason) (m n : ℕ) → (let a : Result Tree XmlFault = Err (fault.At x m) in a) ≡ Err (fault.At r n)
    → reading.Refused x m ≡ reading.Refused r n
same_fault x r m n e = cc

pub fault_reason : (x r : Reason) (m n : ℕ) → (let a : Result Tree XmlFault = Err (fault.At x m) in a) ≡ Err (fault.At r n) → x ≡ r
fault_reason x r m n e = cc

pub ok_fault : (tree : Tree) (r : Reason) (n : ℕ) → (let a : Result Tree XmlFault = Ok tree in a) ≡ Err (fault.At r n) → ⊥
ok_fault tree r n e = cc

by_tree : (taken : ℕ) (found : Option Tree) (r : Reason) (n : ℕ) → IsOfWriting r → answer_by taken found ≡ Err (fault.At r n) → ⊥
by_tree taken None r n w e = subst IsOfWriting (sym (fault_reason reason.Truncated r taken n e)) w
by_tree taken (Some tree) r n w e = ok_fault tree r n e

refused_by : (x : Reading) (r : Reason) (n : ℕ) → IsOfWriting r → Told x r n → x ≡ reading.Refused r n
refused_by (reading.Refused y m) r n w e = same_fault y r m n e
refused_by (reading.Going scan taken) r n w e = absurd (by_tree taken (finished scan) r n w e)

-- ---- the bytes before the place

abbrev Counted : ℕ → Turn → Type 0
Counted taken t = ((r : Reason) × (counted taken t ≡ reading.Refused r taken))
    ⊎ ((scan : Scan) × (counted taken t ≡ reading.Going scan (taken + 1)))

counted_either : (taken : ℕ) (t : Turn) → Counted taken t
counted_either taken (turn.Refused r) = inl (reason_at taken r, refl)
counted_either taken (turn.On scan) = by (nat_lt taken 262144) refl
  where
    by : (q : Bool) → nat_lt taken 262144 ≡ q → Counted taken (turn.On scan)
    by true e = inr (scan, ap (λ q. cond q (reading.Going scan (taken + 1)) (reading.Refused reason.Size taken)) e)
    by false e = inl (reason.Size, ap (λ q. cond q (reading.Going scan (taken + 1)) (reading.Refused reason.Size taken)) e)

going_refused : (scan : Scan) (taken n : ℕ) (r : Reason) → reading.Going scan taken ≡ reading.Refused r n → ⊥
going_refused scan taken n r e = cc

reason_in : Reading → Reason
reason_in (reading.Refused r n) = r
reason_in (reading.Going scan n) = reason.Size

place_in : Reading → ℕ
place_in (reading.Refused r n) = n
place_in (reading.Going scan n) = n

same_place : (x r : Reason) (m n : ℕ) → reading.Refused x m ≡ reading.Refused r n → m ≡ n
unfolding place_in
same_place x r m n e = ap place_in e

pub same_reason : (x r : Reason) (m n : ℕ) → reading.Refused x m ≡ reading.Refused r n → x ≡ r
unfolding reason_in
same_reason x r m n e = ap reason_in e

-- so many bytes are taken before this one, which is refused
abbrev pub IsRefusedAt : List ℕ → Scan → ℕ → Reason → ℕ → Type 0
IsRefusedAt bs scan taken r n = (k : ℕ) × (n ≡ taken + k) × (k < length bs) × (last : Scan)
    × (run (reading.Going scan taken) (take k bs) ≡ reading.Going last n)
    × (b : ℕ) × (take (suc k) bs ≡ take k bs ++ b ∷ []) × (counted n (turned last b) ≡ reading.Refused r n)

refused_at : (bs : List ℕ) (scan : Scan) (taken : ℕ) (r : Reason) (n : ℕ) → run (reading.Going scan taken) bs ≡ reading.Refused r n
    → IsRefusedAt bs scan taken r n
refused_at [] scan taken r n e = absurd (going_refused scan taken n r (sym (run_none (reading.Going scan taken)) ∙ e))
refused_at (b ∷ bs) scan taken r n e =
    by (counted_either taken (turned scan b)) (sym (run_one scan taken b bs) ∙ e) (λ next. refused_at bs next (taken + 1) r n)
  where
    none : n ≡ taken → n ≡ taken + 0
    none h = omega (arith, h)

    some : 0 < length (b ∷ bs)
    some = omega arith

    more : (k : ℕ) → n ≡ (taken + 1) + k → n ≡ taken + suc k
    more k h = omega (arith, h)

    longer : (k : ℕ) → k < length bs → suc k < length (b ∷ bs)
    longer k h = omega (arith, h)

    by : Counted taken (turned scan b) → run (counted taken (turned scan b)) bs ≡ reading.Refused r n
        → ((next : Scan) → run (reading.Going next (taken + 1)) bs ≡ reading.Refused r n → IsRefusedAt bs next (taken + 1) r n)
        → IsRefusedAt (b ∷ bs) scan taken r n
    by (inl c) g ih =
        let whole : reading.Refused c.0 taken ≡ reading.Refused r n =
        sym (run_refused c.0 taken bs) ∙ ap (λ x. run x bs) (sym c.1) ∙ g in
        let same : taken ≡ n = same_place c.0 r taken n whole in (
          0,
          none (sym same),
          some,
          scan,
          run_none (reading.Going scan taken) ∙ ap (λ t. reading.Going scan t) same,
          b,
          refl,
          ap (λ t. counted t (turned scan b)) (sym same) ∙ c.1 ∙ whole,
        )
    by (inr c) g ih =
        let i = ih c.0 (ap (λ x. run x bs) (sym c.1) ∙ g) in (
          suc i.0,
          more i.0 i.1,
          longer i.0 i.2,
          i.3,
          run_one scan taken b (take i.0 bs) ∙ ap (λ x. run x (take i.0 bs)) c.1 ∙ i.4,
          i.5,
          ap (λ x. b ∷ x) i.6,
          i.7,
        )

-- ---- by the place itself

-- the bytes before the place are taken, and with this one they are refused
abbrev pub IsStop : List ℕ → Reason → ℕ → Type 0
IsStop bytes r n = (n < length bytes) × (last : Scan) × (run (reading.Going start 0) (take n bytes) ≡ reading.Going last n)
    × (b : ℕ) × (take (n + 1) bytes ≡ take n bytes ++ b ∷ []) × (counted n (turned last b) ≡ reading.Refused r n)

pub stop : (bytes : List ℕ) (r : Reason) (n : ℕ) → run (reading.Going start 0) bytes ≡ reading.Refused r n → IsStop bytes r n
stop bytes r n e =
    let i = refused_at bytes start 0 r n e in
    let same : i.0 ≡ n = same_count i.0 i.1 in (
      subst (λ k. k < length bytes) same i.2,
      i.3,
      subst (λ k. run (reading.Going start 0) (take k bytes) ≡ reading.Going i.3 n) same i.4,
      i.5,
      ap (λ k. take k bytes) (one_more i.0 same) ∙ i.6 ∙ ap (λ k. take k bytes ++ i.5 ∷ []) same,
      i.7,
    )
  where
    same_count : (k : ℕ) → n ≡ 0 + k → k ≡ n
    same_count k h = omega (arith, h)

    one_more : (k : ℕ) → k ≡ n → n + 1 ≡ suc k
    one_more k h = omega (arith, h)

pub exact : (bytes : List ℕ) (r : Reason) (n : ℕ) → IsOfWriting r → xml_answer bytes ≡ Err (fault.At r n) → IsDead bytes n
exact bytes r n w e =
    let i = stop bytes r n (refused_by (run (reading.Going start 0) bytes) r n w e) in
    (i.0, viable (take n bytes) (i.1, n, i.2), dead bytes r n w e)

-- ---- why the byte is refused

same_refusal : (x r : Reason) (n : ℕ) → reading.Refused (reason_at n x) n ≡ reading.Refused r n → reason_at n x ≡ r
same_refusal x r n e = same_reason (reason_at n x) r n n e

-- a reason that isn't of size is told as it is
abbrev pub IsKept : Reason → Type 0
IsKept reason.Size = ⊥
IsKept _ = Unit {0}

no_size : (r : Reason) → IsKept r → reason.Size ≡ r → ⊥
no_size r k e = subst IsKept (sym e) k

pub kept : (x r : Reason) (n : ℕ) → IsKept r → reason_at n x ≡ r → x ≡ r
kept x r n k e = by (nat_lt n 262144) e
  where
    past : (x : Reason) → reason_past x ≡ r → x ≡ r
    past reason.Attributes e = absurd (no_size r k e)
    past reason.NotUtf8 e = e
    past reason.Syntax e = e
    past reason.Truncated e = e
    past reason.Namespace e = e
    past reason.Depth e = e
    past reason.Size e = e

    by : (q : Bool) → cond q x (reason_past x) ≡ r → x ≡ r
    by true e = e
    by false e = past x e

-- the byte is broken for this reason, or passed and refused by the state for it
abbrev pub IsWhy : Scan → ℕ → Reason → Type 0
IsWhy last b r = (octet_after last.octet b ≡ decoding.Broken r)
    ⊎ ((p : Octet) × (octet_after last.octet b ≡ decoding.At p) × (unless_returned last.state last.returned b ≡ state.Refused r))

by_state : (last : Scan) (b n : ℕ) (r : Reason) (p : Octet) → IsKept r → octet_after last.octet b ≡ decoding.At p
    → (s : State) → unless_returned last.state last.returned b ≡ s → counted n (turned_by s p b) ≡ reading.Refused r n → IsWhy last b r
by_state last b n r p k o (state.Refused x) q e =
    inr (p, o, q ∙ ap (λ y. state.Refused y) (kept x r n k (same_refusal x r n e)))
by_state last b n r p k o (state.At outer here m) q e = absurd (by (nat_lt n 262144) e)
  where
    by : (t : Bool)
        → cond t (reading.Going (scanned (state.At outer here m) p (b == 13)) (n + 1))
        (reading.Refused reason.Size n) ≡ reading.Refused r n → ⊥
    by true e = going_refused (scanned (state.At outer here m) p (b == 13)) (n + 1) n r e
    by false e = no_size r k (same_reason reason.Size r n n e)

pub why : (last : Scan) (b n : ℕ) (r : Reason) → IsKept r → counted n (turned last b) ≡ reading.Refused r n → IsWhy last b r
why last b n r k e = by (octet_after last.octet b) refl e
  where
    by : (d : Decoding) → octet_after last.octet b ≡ d → counted n (turned_from last b d) ≡ reading.Refused r n → IsWhy last b r
    by (decoding.Broken x) o e = inl (o ∙ ap (λ y. decoding.Broken y) (kept x r n k (same_refusal x r n e)))
    by (decoding.At p) o e = by_state last b n r p k o (unless_returned last.state last.returned b) refl e

-- what the machine has come to before the byte
pub reached_before : (front : List ℕ) (last : Scan) (n : ℕ) → run (reading.Going start 0) front ≡ reading.Going last n
    → (octets (decoding.At Between) front ≡ decoding.At last.octet) × IsReached last.octet last.state
reached_before front last n e =
    let r = back front (top mode.Begin) Between false 0 last n (omega arith) e in
    (r.0, subst (λ s. IsReached last.octet s) r.1 (reached front (top mode.Begin) 0 Between false last.octet ((tt, tt), tt) (inl refl) r.0))

-- the state refuses for no other reason than its own
pub state_reason : (last : Scan) (b : ℕ) (r : Reason) (p : Octet) → IsReached last.octet last.state
    → octet_after last.octet b ≡ decoding.At p
    → unless_returned last.state last.returned b ≡ state.Refused r → IsOfState r
state_reason last b r p x o e =
    let y = returned_step last.state x.0 last.octet p last.returned b x.1 x.2 o in
    subst (λ s. Live y.0 s) e y.1

-- ---- NotUtf8 where no UTF-8 begins so, Syntax where some does

broken_stays : (r : Reason) (bs : List ℕ) → octets (decoding.Broken r) bs ≡ decoding.Broken r
broken_stays r [] = refl
broken_stays r (b ∷ bs) = refl

-- the bytes with the one at the place, and more
octets_past : (front more : List ℕ) (o : Octet) (b : ℕ) (d : Decoding) → octets (decoding.At Between) front ≡ decoding.At o
    → octet_after o b ≡ d → octets (decoding.At Between) ((front ++ b ∷ []) ++ more) ≡ octets d more
octets_past front more o b d e f = ap (λ x. octets (decoding.At Between) x) (append_assoc front (b ∷ []) more)
    ∙ octets_append front (b ∷ more) Between o e ∙ ap (λ x. octets x more) f

pub not_utf8 : (bytes : List ℕ) (n : ℕ) → xml_answer bytes ≡ Err (fault.At reason.NotUtf8 n) → BeginsUtf8 (take (n + 1) bytes) → ⊥
not_utf8 bytes n e u =
    let i = stop bytes reason.NotUtf8 n (refused_by (run (reading.Going start 0) bytes) reason.NotUtf8 n tt e) in
    let x = reached_before (take n bytes) i.1 n i.2 in
    let v : IsUtf8 ((take n bytes ++ i.3 ∷ []) ++ u.0) = subst (λ f. IsUtf8 (f ++ u.0)) i.4 u.1 in
    by i.1 i.3 u.0 x.0 x.1 v (why i.1 i.3 n reason.NotUtf8 tt i.5)
  where
    by : (last : Scan) (b : ℕ) (more : List ℕ) → octets (decoding.At Between) (take n bytes) ≡ decoding.At last.octet
        → IsReached last.octet last.state
        → IsUtf8 ((take n bytes ++ b ∷ []) ++ more) → IsWhy last b reason.NotUtf8 → ⊥
    by last b more o x v (inl f) = utf8_passed ((take n bytes ++ b ∷ []) ++ more) v
        (octets_past (take n bytes) more last.octet b (decoding.Broken reason.NotUtf8) o f ∙ broken_stays reason.NotUtf8 more)
    by last b more o x v (inr f) = state_reason last b reason.NotUtf8 f.0 x f.1 f.2

pub begins_utf8 : (bytes : List ℕ) (n : ℕ) → xml_answer bytes ≡ Err (fault.At reason.Syntax n) → BeginsUtf8 (take (n + 1) bytes)
begins_utf8 bytes n e =
    let i = stop bytes reason.Syntax n (refused_by (run (reading.Going start 0) bytes) reason.Syntax n tt e) in
    let x = reached_before (take n bytes) i.1 n i.2 in
    subst (λ f. BeginsUtf8 f) (sym i.4) (by i.1 i.3 x.0 (why i.1 i.3 n reason.Syntax tt i.5))
  where
    by : (last : Scan) (b : ℕ) → octets (decoding.At Between) (take n bytes) ≡ decoding.At last.octet → IsWhy last b reason.Syntax
        → BeginsUtf8 (take n bytes ++ b ∷ [])
    by last b o (inl f) = (
      [],
      subst (λ x. IsUtf8 x) (sym (append-nil (take n bytes ++ b ∷ [])))
          (syntax_utf8 (take n bytes) last.octet b o f),
    )
    by last b o (inr f) = (
      tail f.0,
      passed_utf8 ((take n bytes ++ b ∷ []) ++ tail f.0)
          (octets_past (take n bytes) (tail f.0) last.octet b (decoding.At f.0) o f.1 ∙ tail_octets f.0),
    )

-- the causes of the table
pub utf8_cause : (bytes : List ℕ) (n : ℕ) → xml_answer bytes ≡ Err (fault.At reason.NotUtf8 n) → IsCause bytes reason.NotUtf8 n
utf8_cause bytes n e = (exact bytes reason.NotUtf8 n tt e, not_utf8 bytes n e)

pub syntax_cause : (bytes : List ℕ) (n : ℕ) → xml_answer bytes ≡ Err (fault.At reason.Syntax n) → IsCause bytes reason.Syntax n
syntax_cause bytes n e = (exact bytes reason.Syntax n tt e, begins_utf8 bytes n e)

-- ---- bytes that end too early

told_early : (x : Reading) (n : ℕ) → answer_of x ≡ Err (fault.At reason.Truncated n) → (x ≡ reading.Refused reason.Truncated n)
    ⊎ ((scan : Scan) × (taken : ℕ) × (x ≡ reading.Going scan taken))
told_early (reading.Refused y m) n e = inl (same_fault y reason.Truncated m n e)
told_early (reading.Going scan taken) n e = inr (scan, taken, refl)

pub early_taken : (bytes : List ℕ) (n : ℕ) → xml_answer bytes ≡ Err (fault.At reason.Truncated n) → IsTaken bytes
early_taken bytes n e = by (told_early (run (reading.Going start 0) bytes) n e)
  where
    never : (last : Scan) (b : ℕ) → IsReached last.octet last.state → IsWhy last b reason.Truncated → ⊥
    never last b x (inl f) = no_early last.octet b f
    never last b x (inr f) = state_reason last b reason.Truncated f.0 x f.1 f.2

    refused : IsStop bytes reason.Truncated n → ⊥
    refused i = never i.1 i.3 (reached_before (take n bytes) i.1 n i.2).1 (why i.1 i.3 n reason.Truncated tt i.5)

    by : (run (reading.Going start 0) bytes ≡ reading.Refused reason.Truncated n)
        ⊎ ((scan : Scan) × (taken : ℕ) × (run (reading.Going start 0) bytes ≡ reading.Going scan taken)) → IsTaken bytes
    by (inl f) = absurd (refused (stop bytes reason.Truncated n f))
    by (inr f) = f

pub early_continues : (bytes : List ℕ) (n : ℕ) → xml_answer bytes ≡ Err (fault.At reason.Truncated n) → CanContinue bytes
early_continues bytes n e = viable bytes (early_taken bytes n e)
