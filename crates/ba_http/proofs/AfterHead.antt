-- A head, and then its body; for the clauses `request` and `reply`.
use Rattle.std.proofs.Common.{◌≡◌, ℕ, ◌+◌, ◌≤◌, inl, inr, List, ◌++◌, length, take, drop, sym, ap, ◌∙◌, subst, arith, append-nil}
use Rattle.std.proofs.Common.{append_assoc, length-append, take-append-drop, Option, None, Result, Ok, Err}
use Rattle.std.proofs.Math.Seq.{take-append-add}
use Rattle.std.specs.Io.KnownBytes.{Consumes}
use Rattle.std.proofs.KnownBytes.{Consumes-trans}
use Rattle.ba_http_head.specs.declared.faults.HttpFault.{HttpFault}
use Rattle.ba_http_head.specs.declared.faults.HttpFault.TheVariants.{Memory, BadHead, Length as NoLength, TooLarge, BadChunk, Truncated}
use Rattle.ba_http_head.specs.declared.faults.HttpFault.TheVariants.{Read}
use Rattle.ba_http_head.specs.declared.headings.Heading.{Heading}
use Rattle.ba_http_head.specs.declared.lengths.Length.{Length}
use Rattle.ba_http_head.specs.Heads.{StartLine, IsHead, Opening, OpeningSo, Opens}
use Rattle.ba_http_chunks.specs.Transfers.{Sight, whole, broken, large}
use Rattle.ba_http.specs.Messages.{EndsBody, IsShortTransfer, HttpMessage, ShowsAfterHead, IsUnfinished, MessageSo, Reads}
use Rattle.ba_http.specs.inside.Bodies.{BodySo, ReadsBody}

abbrev pub message_or : StartLine → Result (List ℕ) HttpFault → Result HttpMessage HttpFault
message_or start (Ok body) = Ok (record { start = start; body = body })
message_or start (Err fault) = Err fault

module _ (heading : Heading) (all hand taken : List ℕ) (n : ℕ) (start : StartLine) (said : Option Length) (within : n ≤ length all)
    (is : IsHead heading (take n all) start (Ok said)) (rest : hand ≡ drop n all) where
  cut : (more : List ℕ) → all ++ more ≡ take n all ++ (hand ++ more)
  cut more =
      ap (λ v. v ++ more) (sym (take-append-drop n all)) ∙ append_assoc (take n all) (drop n all) more
      ∙ ap (λ v. take n all ++ (v ++ more)) (sym rest)

  -- the head, and so many bytes after it
  bytes : (m : ℕ) → take (length (take n all) + m) (all ++ taken) ≡ take n all ++ take m (hand ++ taken)
  bytes m = ap (take (length (take n all) + m)) (cut taken) ∙ take-append-add (take n all) (hand ++ taken) m

  inside : (m : ℕ) → m ≤ length (hand ++ taken) → length (take n all) + m ≤ length (all ++ taken)
  inside m less = omega (arith, less, ap length (cut taken), length-append (take n all) (hand ++ taken))

  shows : (m : ℕ) (sight : Sight) → EndsBody said (take m (hand ++ taken)) sight
      → ShowsAfterHead heading (take (length (take n all) + m) (all ++ taken)) start sight
  shows m sight ends = (take n all, take m (hand ++ taken), said, bytes m, is, ends)

  so : (left : Option (List ℕ)) (result : Result (List ℕ) HttpFault) → BodySo said (hand ++ taken) left result
      → MessageSo heading (all ++ taken) left (message_or start result)
  so left (Ok body) told =
      elim told [
        | inl ends ↦ inl (length (take n all) + ends.0, inside ends.0 ends.1, shows ends.0 (whole body) ends.2)
        | inr input ↦
            inr (
              (
                take n all,
                cut taken ∙ ap (λ v. take n all ++ v) (sym input.1),
                subst (λ v. IsHead heading (take n all) start (Ok v)) input.0 is,
                subst (IsShortTransfer None) (sym input.1) input.2,
              ),
              input.3,
            )
      ]
  so left (Err Memory) told = tt
  so left (Err (BadHead place)) told = absurd told
  so left (Err NoLength) told = absurd told
  so left (Err TooLarge) told =
      (length (take n all) + told.0, inside told.0 told.1, inr (inr (start, shows told.0 large told.2)))
  so left (Err (BadChunk place)) told =
      (length (take n all) + told.0, inside told.0 told.1, (start, shows told.0 (broken place) told.2))
  so left (Err Truncated) told = (
    inr (
      told.0,
      (
        take n all,
        hand ++ taken,
        start,
        cut taken,
        subst (λ v. IsHead heading (take n all) start (Ok v)) told.1 is,
        subst (λ v. IsShortTransfer v (hand ++ taken)) told.1 told.2,
      ),
    ),
    told.3,
  )
  so left (Err Read) told = inr (said, (take n all, hand ++ taken, start, cut taken, is, told))

  -- nothing has shown itself of the body
  pub unfinished : (more : List ℕ) → IsShortTransfer said (hand ++ more) → IsUnfinished heading (all ++ more)
  unfinished more short = inr (said, (take n all, hand ++ more, start, cut more, is, short))

pub after_head : (heading : Heading) (old mid new : Option (List ℕ)) (opening : Opening) (result : Result (List ℕ) HttpFault)
    → Opens heading old mid (Ok opening) → ReadsBody opening.length opening.rest mid new result
    → Reads heading old new (message_or opening.start result)
after_head heading old mid new opening result opens reads =
    let all = opens.0 ++ opens.1 in
    let head = opens.5 in
    let taken = reads.0 in
    let consumed = Consumes-trans old mid new (opens.0 ++ opens.1) reads.0 opens.2 reads.1 in
    let told = so heading (opens.0 ++ opens.1) opening.rest reads.0 head.0 opening.start opening.length head.1 head.2 head.3 new
    result reads.3 in
    elim reads.2 [
      | inl none ↦
          let same : (opens.0 ++ opens.1) ++ reads.0 ≡ opens.0 ++ opens.1 =
          ap (λ v. (opens.0 ++ opens.1) ++ v) none ∙ append-nil (opens.0 ++ opens.1) in (
            opens.0,
            opens.1,
            subst (Consumes old new) same consumed,
            inl opens.3,
            opens.4,
            subst (λ v. MessageSo heading v new (message_or opening.start result)) same told,
          )
      | inr more ↦
          let same : (opens.0 ++ opens.1) ++ reads.0 ≡ ((opens.0 ++ opens.1) ++ more.0) ++ more.1 =
          ap (λ v. (opens.0 ++ opens.1) ++ v) more.2 ∙ sym (append_assoc (opens.0 ++ opens.1) more.0 more.1) in (
            (opens.0 ++ opens.1) ++ more.0,
            more.1,
            subst (Consumes old new) same consumed,
            unfinished heading (opens.0 ++ opens.1) opening.rest reads.0 head.0 opening.start opening.length head.1 head.2 head.3
                more.0 more.3,
            more.4,
            subst (λ v. MessageSo heading v new (message_or opening.start result)) same told,
          )
    ]

-- a fault of the head
fault_so : (heading : Heading) (taken : List ℕ) (left : Option (List ℕ)) (fault : HttpFault) → OpeningSo heading taken left (Err fault)
    → MessageSo heading taken left (Err fault)
fault_so heading taken left Memory told = tt
fault_so heading taken left (BadHead place) told = told
fault_so heading taken left NoLength told = (told.0, told.1, (told.2, told.3))
fault_so heading taken left TooLarge told =
    elim told.2 [
      | inl long ↦ (told.0, told.1, inl long)
      | inr says ↦ (told.0, told.1, inr (inl says))
    ]
fault_so heading taken left (BadChunk place) told = absurd told
fault_so heading taken left Truncated told = (inl told.0, told.1)
fault_so heading taken left Read told = inl told

pub no_head : (heading : Heading) (old new : Option (List ℕ)) (fault : HttpFault) → Opens heading old new (Err fault)
    → Reads heading old new (Err fault)
no_head heading old new fault opens =
    (opens.0, opens.1, opens.2, inl opens.3, opens.4, fault_so heading (opens.0 ++ opens.1) new fault opens.5)
