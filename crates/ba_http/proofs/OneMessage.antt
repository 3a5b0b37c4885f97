-- The message of given bytes is one, and so is its refusal; for the laws.
use Rattle.std.proofs.Common.{◌≡◌, ℕ, ◌+◌, ◌≤◌, inl, inr, List, [], ◌∷◌, ◌++◌, length, take, drop, refl, sym, ap, ◌∙◌, subst, arith}
use Rattle.std.proofs.Common.{append-nil, append_assoc, length-append, take-append-drop, take_all, Option, None, Some, Result, Ok, Err}
use Rattle.std.proofs.lemmas.List.{length-take-le, take-take}
use Rattle.std.proofs.Math.Seq.{take-append_seam}
use Rattle.ba_http_head.specs.declared.faults.HttpFault.{HttpFault}
use Rattle.ba_http_head.specs.declared.faults.HttpFault.TheVariants.{Memory, BadHead, Length as NoLength, TooLarge, BadChunk, Truncated}
use Rattle.ba_http_head.specs.declared.faults.HttpFault.TheVariants.{Read}
use Rattle.ba_http_head.specs.declared.headings.Heading.{Heading}
use Rattle.ba_http_head.specs.declared.lengths.Length.{Length}
use Rattle.ba_http_head.specs.declared.lengths.Length.TheVariants.{Counted, Chunked}
use Rattle.ba_http_head.specs.declared.scans.Shown.{Shown}
use Rattle.ba_http_head.specs.declared.scans.Shown.TheVariants.{Whole, Bad, Large}
use Rattle.ba_http_head.specs.HeadLines.{IsOpen}
use Rattle.ba_http_head.specs.Heads.{StartLine, IsHead, SaysHead}
use Rattle.ba_http_head.specs.Looks.{Shows}
use Rattle.ba_http_head.proofs.Once.{first_of, shows_once, says_one}
use Rattle.ba_http_chunks.specs.Transfers.{Sight, whole, broken, large}
use Rattle.ba_http_chunks.proofs.Sights.{sights_once, sight_settles}
use Rattle.ba_http.specs.Messages.{EndsBody, IsShortTransfer, HttpMessage, Decides, IsUnfinished}

-- what is answered where this shows itself of the body
abbrev answer_of : StartLine → Sight → Result HttpMessage HttpFault
answer_of start (whole body) = Ok (record { start = start; body = body })
answer_of start (broken place) = Err (BadChunk place)
answer_of start large = Err TooLarge

-- what is answered where this shows itself of the head
abbrev refusal_of : Shown → HttpFault
refusal_of Whole = Memory
refusal_of (Bad place) = BadHead place
refusal_of Large = TooLarge

abbrev pub says_length : Option Length → Result (Option Length) HttpFault
says_length said = Ok said

abbrev says_fault : HttpFault → Result (Option Length) HttpFault
says_fault fault = Err fault

-- how an answer comes
data Ruling (heading : Heading) (bytes : List ℕ) (result : Result HttpMessage HttpFault) : Type 0 where
  at_head : (shown : Shown) → Shows heading bytes shown → (shown ≡ Whole → ⊥) → result ≡ Err (refusal_of shown)
      → Ruling heading bytes result
  by_fields : (start : StartLine) → (fault : HttpFault) → IsHead heading bytes start (Err fault) → result ≡ Err fault
      → Ruling heading bytes result
  by_body : (prefix transfer : List ℕ) → (start : StartLine) → (said : Option Length) → (sight : Sight) → bytes ≡ prefix ++ transfer
      → IsHead heading prefix start (Ok said) → EndsBody said transfer sight → result ≡ answer_of start sight → Ruling heading bytes result

ruled : (heading : Heading) (bytes : List ℕ) (result : Result HttpMessage HttpFault) → Decides heading bytes result
    → Ruling heading bytes result
ruled heading bytes (Ok message) d = by_body d.0 d.1 message.start d.2 (whole message.body) d.3 d.4 d.5 refl
ruled heading bytes (Err Memory) d = absurd d
ruled heading bytes (Err (BadHead place)) d = at_head (Bad place) d (λ same. cc) refl
ruled heading bytes (Err NoLength) d = by_fields d.0 NoLength d.1 refl
ruled heading bytes (Err TooLarge) d =
    elim d [
      | inl long ↦ at_head Large long (λ same. cc) refl
      | inr other ↦
          elim other [
            | inl says ↦ by_fields says.0 TooLarge says.1 refl
            | inr body ↦ by_body body.1.0 body.1.1 body.0 body.1.2 large body.1.3 body.1.4 body.1.5 refl
          ]
    ]
ruled heading bytes (Err (BadChunk place)) d = by_body d.1.0 d.1.1 d.0 d.1.2 (broken place) d.1.3 d.1.4 d.1.5 refl
ruled heading bytes (Err Truncated) d = absurd d
ruled heading bytes (Err Read) d = absurd d

-- what shows itself of a body is one thing, at one byte
ends_once : (said : Option Length) (bytes : List ℕ) (i j : ℕ) (a b : Sight) → i ≤ length bytes → j ≤ length bytes
    → EndsBody said (take i bytes) a → EndsBody said (take j bytes) b → (i ≡ j) × (a ≡ b)
ends_once (Some (Counted n)) bytes i j (whole x) (whole y) first second p q =
    let same : i ≡ j = omega (arith, p.0, q.0, length-take-le i bytes first, length-take-le j bytes second) in
    (same, ap whole (p.1 ∙ ap (λ k. take k bytes) same ∙ sym q.1))
ends_once (Some (Counted n)) bytes i j (whole x) (broken y) first second p q = absurd q
ends_once (Some (Counted n)) bytes i j (whole x) large first second p q = absurd q
ends_once (Some (Counted n)) bytes i j (broken x) b first second p q = absurd p
ends_once (Some (Counted n)) bytes i j large b first second p q = absurd p
ends_once (Some Chunked) bytes i j a b first second p q = sights_once bytes i j a b first second p q
ends_once None bytes i j (whole x) b first second p q = absurd p
ends_once None bytes i j (broken x) b first second p q = absurd p
ends_once None bytes i j large (whole y) first second p q = absurd q
ends_once None bytes i j large (broken y) first second p q = absurd q
ends_once None bytes i j large large first second p q =
    (omega (arith, p, q, length-take-le i bytes first, length-take-le j bytes second), refl)

-- where something shows itself of a body, it isn't short
ends_settle : (said : Option Length) (bytes : List ℕ) (i : ℕ) (a : Sight) → i ≤ length bytes → EndsBody said (take i bytes) a
    → IsShortTransfer said bytes → ⊥
ends_settle (Some (Counted n)) bytes i (whole x) within p short = omega (arith, p.0, length-take-le i bytes within, short)
ends_settle (Some (Counted n)) bytes i (broken x) within p short = absurd p
ends_settle (Some (Counted n)) bytes i large within p short = absurd p
ends_settle (Some Chunked) bytes i a within p short = sight_settles bytes i a within p short
ends_settle None bytes i (whole x) within p short = absurd p
ends_settle None bytes i (broken x) within p short = absurd p
ends_settle None bytes i large within p short = omega (arith, p, length-take-le i bytes within, short)

-- a prefix of some of the bytes, and what stands after it there
module _ (bytes : List ℕ) (n : ℕ) (within : n ≤ length bytes) (prefix transfer : List ℕ) (cut : take n bytes ≡ prefix ++ transfer) where
  sum : n ≡ length prefix + length transfer
  sum = sym (length-take-le n bytes within) ∙ ap length cut ∙ length-append prefix transfer

  pub inner : length prefix ≤ length bytes
  inner = omega (arith, sum, within)

  pub prefix_is : take (length prefix) bytes ≡ prefix
  prefix_is =
      sym (take-take (length prefix) n bytes (omega (arith, sum))) ∙ ap (take (length prefix)) cut ∙ take-append_seam prefix transfer

  whole_is : bytes ≡ prefix ++ (transfer ++ drop n bytes)
  whole_is = sym (take-append-drop n bytes) ∙ ap (λ v. v ++ drop n bytes) cut ∙ append_assoc prefix transfer (drop n bytes)

  after_is : drop (length prefix) bytes ≡ transfer ++ drop n bytes
  after_is = ap (drop (length prefix)) whole_is ∙ drop_seam prefix (transfer ++ drop n bytes)
    where
      drop_seam : (xs ys : List ℕ) → drop (length xs) (xs ++ ys) ≡ ys
      drop_seam [] ys = refl
      drop_seam (x ∷ xs) ys = drop_seam xs ys

  transfer_is : take (length transfer) (drop (length prefix) bytes) ≡ transfer
  transfer_is = ap (take (length transfer)) after_is ∙ take-append_seam transfer (drop n bytes)

  transfer_in : length transfer ≤ length (drop (length prefix) bytes)
  transfer_in = omega (arith, ap length after_is, length-append transfer (drop n bytes))

module _ (heading : Heading) (bytes : List ℕ) (m n : ℕ) (first : m ≤ length bytes) (second : n ≤ length bytes) where
  once : (a b : Result HttpMessage HttpFault) → Ruling heading (take m bytes) a → Ruling heading (take n bytes) b → (m ≡ n) × (a ≡ b)
  once a b (at_head s x never p) (at_head t y none q) =
      let same = shows_once heading bytes m n s t first second x y in
      (same.0, p ∙ ap (λ v. Err (refusal_of v)) same.1 ∙ sym q)
  once a b (at_head s x never p) (by_fields start fault y q) =
      absurd (never (shows_once heading bytes m n s Whole first second x y.shows).1)
  once a b (at_head s x never p) (by_body prefix transfer start said sight cut y e q) =
      let whole_shows = subst (λ v. Shows heading v Whole) (sym (prefix_is bytes n second prefix transfer cut)) y.shows in
      absurd (never (shows_once heading bytes m (length prefix) s Whole first (inner bytes n second prefix transfer cut) x whole_shows).1)
  once a b (by_fields start fault x p) (at_head t y never q) =
      absurd (never (sym (shows_once heading bytes m n Whole t first second x.shows y).1))
  once a b (by_fields start fault x p) (by_fields begin other y q) =
      let same = (shows_once heading bytes m n Whole Whole first second x.shows y.shows).0 in
      let here = subst (λ k. SaysHead heading (take k bytes) start (Err fault)) same x.says in
      let says = (says_one heading (take n bytes) start begin (Err fault) (Err other) here y.says).1 in
      let equal : fault ≡ other = cc in
      (same, p ∙ ap Err equal ∙ sym q)
  once a b (by_fields start fault x p) (by_body prefix transfer begin said sight cut y e q) =
      let at = prefix_is bytes n second prefix transfer cut in
      let whole_shows = subst (λ v. Shows heading v Whole) (sym at) y.shows in
      let same = (shows_once heading bytes m (length prefix) Whole Whole first (inner bytes n second prefix transfer cut) x.shows
      whole_shows).0 in
      let here = subst (λ v. SaysHead heading v start (Err fault)) (ap (λ k. take k bytes) same ∙ at) x.says in
      let says = (says_one heading prefix start begin (Err fault) (Ok said) here y.says).1 in
      absurd (cc)
  once a b (by_body prefix transfer start said sight cut x e p) (at_head t y never q) =
      let whole_shows = subst (λ v. Shows heading v Whole) (sym (prefix_is bytes m first prefix transfer cut)) x.shows in
      absurd (never (sym (shows_once heading bytes (length prefix) n Whole t (inner bytes m first prefix transfer cut) second
      whole_shows y).1))
  once a b (by_body prefix transfer start said sight cut x e p) (by_fields begin fault y q) =
      let at = prefix_is bytes m first prefix transfer cut in
      let whole_shows = subst (λ v. Shows heading v Whole) (sym at) x.shows in
      let same = (shows_once heading bytes (length prefix) n Whole Whole (inner bytes m first prefix transfer cut) second
      whole_shows y.shows).0 in
      let here = subst (λ v. SaysHead heading v start (Ok said)) (sym at ∙ ap (λ k. take k bytes) same) x.says in
      let says = (says_one heading (take n bytes) start begin (Ok said) (Err fault) here y.says).1 in
      absurd (cc)
  once a b (by_body prefix transfer start said sight cut x e p) (by_body head rest begin told seen split y f q) =
      let one = prefix_is bytes m first prefix transfer cut in
      let two = prefix_is bytes n second head rest split in
      let shows_one = subst (λ v. Shows heading v Whole) (sym one) x.shows in
      let shows_two = subst (λ v. Shows heading v Whole) (sym two) y.shows in
      let same = (shows_once heading bytes (length prefix) (length head) Whole Whole (inner bytes m first prefix transfer cut)
      (inner bytes n second head rest split) shows_one shows_two).0 in
      let prefixes : prefix ≡ head = sym one ∙ ap (λ k. take k bytes) same ∙ two in
      let here = subst (λ v. SaysHead heading v start (Ok said)) prefixes x.says in
      let says = says_one heading head start begin (Ok said) (Ok told) here y.says in
      let lengths : said ≡ told = option_of said told says.1 in
      let after = drop (length head) bytes in
      let left : take (length transfer) (drop (length head) bytes) ≡ transfer =
      ap (λ k. take (length transfer) (drop k bytes)) (sym same) ∙ transfer_is bytes m first prefix transfer cut in
      let left_in : length transfer ≤ length (drop (length head) bytes) =
      subst (λ k. length transfer ≤ length (drop k bytes)) same (transfer_in bytes m first prefix transfer cut) in
      let ends_one = subst (λ v. EndsBody told v sight) (sym left) (subst (λ v. EndsBody v transfer sight) lengths e) in
      let ends_two = subst (λ v. EndsBody told v seen) (sym (transfer_is bytes n second head rest split)) f in
      let both = ends_once told (drop (length head) bytes) (length transfer) (length rest) sight seen left_in
      (transfer_in bytes n second head rest split) ends_one ends_two in (
        omega (arith, sum bytes m first prefix transfer cut, sum bytes n second head rest split, same, both.0),
        p ∙ ap (λ v. answer_of v sight) says.0 ∙ ap (answer_of begin) both.1 ∙ sym q,
      )
    where
      option_of : (u v : Option Length) → says_length u ≡ says_length v → u ≡ v
      option_of u v is = cc

pub decides_once : (heading : Heading) (bytes : List ℕ) (m n : ℕ) (a b : Result HttpMessage HttpFault) → m ≤ length bytes → n ≤ length bytes
    → Decides heading (take m bytes) a → Decides heading (take n bytes) b → (m ≡ n) × (a ≡ b)
decides_once heading bytes m n a b first second x y =
    once heading bytes m n first second a b (ruled heading (take m bytes) a x) (ruled heading (take n bytes) b y)

-- what shows itself at a prefix isn't open
pub closed : (heading : Heading) (bytes : List ℕ) (k : ℕ) (shown : Shown) → k ≤ length bytes → Shows heading (take k bytes) shown
    → IsOpen heading bytes → ⊥
closed heading bytes k shown within shows yet = yet k within (first_of heading (take k bytes) shown shows).0

module _ (heading : Heading) (bytes : List ℕ) (n : ℕ) (within : n ≤ length bytes) where
  settled : (a : Result HttpMessage HttpFault) → Ruling heading (take n bytes) a → IsUnfinished heading bytes → ⊥
  settled a (at_head s x never p) yet =
      elim yet [
        | inl yet_open ↦ closed heading bytes n s within x yet_open
        | inr after ↦
            let h = after.1 in
            let all : take (length bytes) bytes ≡ h.0 ++ h.1 = take_all (length bytes) bytes (omega arith) ∙ h.3 in
            let whole_shows = subst (λ v. Shows heading v Whole)
            (sym (prefix_is bytes (length bytes) (omega arith) h.0 h.1 all)) h.4.shows in
            never (shows_once heading bytes n (length h.0) s Whole within (inner bytes (length bytes) (omega arith) h.0 h.1 all)
            x whole_shows).1
      ]
  settled a (by_fields start fault x p) yet =
      elim yet [
        | inl yet_open ↦ closed heading bytes n Whole within x.shows yet_open
        | inr after ↦
            let h = after.1 in
            let all : take (length bytes) bytes ≡ h.0 ++ h.1 = take_all (length bytes) bytes (omega arith) ∙ h.3 in
            let at = prefix_is bytes (length bytes) (omega arith) h.0 h.1 all in
            let whole_shows = subst (λ v. Shows heading v Whole) (sym at) h.4.shows in
            let same = (shows_once heading bytes n (length h.0) Whole Whole within
            (inner bytes (length bytes) (omega arith) h.0 h.1 all) x.shows whole_shows).0 in
            let here = subst (λ v. SaysHead heading v start (Err fault)) (ap (λ k. take k bytes) same ∙ at) x.says in
            let says : says_fault fault ≡ says_length after.0 = (says_one heading h.0 start h.2 (Err fault) (Ok after.0) here h.4.says).1 in
            cc
      ]
  settled a (by_body prefix transfer start said sight cut x e p) yet =
      elim yet [
        | inl yet_open ↦
            closed heading bytes (length prefix) Whole (inner bytes n within prefix transfer cut)
            (subst (λ v. Shows heading v Whole) (sym (prefix_is bytes n within prefix transfer cut)) x.shows) yet_open
        | inr after ↦
            let h = after.1 in
            let all : take (length bytes) bytes ≡ h.0 ++ h.1 = take_all (length bytes) bytes (omega arith) ∙ h.3 in
            let one = prefix_is bytes n within prefix transfer cut in
            let two = prefix_is bytes (length bytes) (omega arith) h.0 h.1 all in
            let same = (shows_once heading bytes (length prefix) (length h.0) Whole Whole (inner bytes n within prefix transfer cut)
            (inner bytes (length bytes) (omega arith) h.0 h.1 all) (subst (λ v. Shows heading v Whole) (sym one) x.shows)
            (subst (λ v. Shows heading v Whole) (sym two) h.4.shows)).0 in
            let prefixes : prefix ≡ h.0 = sym one ∙ ap (λ k. take k bytes) same ∙ two in
            let here = subst (λ v. SaysHead heading v start (Ok said)) prefixes x.says in
            let says : says_length said ≡ says_length after.0 = (says_one heading h.0 start h.2 (Ok said) (Ok after.0) here h.4.says).1 in
            let lengths : said ≡ after.0 = cc in
            let rest : drop (length prefix) bytes ≡ h.1 =
            ap (λ k. drop k bytes) same ∙ after_is bytes (length bytes) (omega arith) h.0 h.1 all
            ∙ ap (λ v. h.1 ++ v) (none_left bytes) ∙ append-nil h.1 in
            let ends = subst (λ v. EndsBody said v sight) (sym (transfer_is bytes n within prefix transfer cut)) e in
            ends_settle said (drop (length prefix) bytes) (length transfer) sight (transfer_in bytes n within prefix transfer cut) ends
            (subst (λ v. IsShortTransfer said v) (sym rest) (subst (λ v. IsShortTransfer v h.1) (sym lengths) h.5))
      ]
    where
      none_left : (xs : List ℕ) → drop (length xs) xs ≡ []
      none_left [] = refl
      none_left (x ∷ xs) = none_left xs

pub decision_settles : (heading : Heading) (bytes : List ℕ) (n : ℕ) (a : Result HttpMessage HttpFault) → n ≤ length bytes
    → Decides heading (take n bytes) a → ¬ (IsUnfinished heading bytes)
decision_settles heading bytes n a within x yet = settled heading bytes n within a (ruled heading (take n bytes) a x) yet
