-- How much is taken after what a message or a refusal shows itself by; for the law.
use Rattle.std.proofs.Common.{ℕ, ◌<◌, ◌≤◌, ◌⊎◌, inl, inr, List, ◌++◌, length, take, drop, refl, sym, subst, arith, length-append}
use Rattle.std.proofs.Common.{length-drop, take-append-drop, Option, Result, Ok, Err}
use Rattle.std.specs.Prelude.{◌≢◌}
use Rattle.std.proofs.lemmas.Bool.{cases_lt}
use Rattle.std.proofs.lemmas.List.{take-append-le}
use Rattle.std.specs.Io.KnownBytes.{Consumes, IsAtEnd}
use Rattle.ba_http_head.specs.declared.blocks.TheConstants.{BLOCK}
use Rattle.ba_http_head.specs.declared.faults.HttpFault.{HttpFault}
use Rattle.ba_http_head.specs.declared.faults.HttpFault.TheVariants.{Memory, BadHead, Length as NoLength, TooLarge, BadChunk, Truncated}
use Rattle.ba_http_head.specs.declared.faults.HttpFault.TheVariants.{Read}
use Rattle.ba_http_head.specs.declared.headings.Heading.{Heading}
use Rattle.ba_http.specs.Messages.{HttpMessage, Decides, IsUnfinished, EndsAtInput, Reads}
use Rattle.ba_http.specs.Answers.{TakesLittleMore}
use Rattle.ba_http.proofs.OneMessage.{decision_settles}

module _ (heading : Heading) (old new : Option (List ℕ)) (before last : List ℕ) (result : Result HttpMessage HttpFault)
    (consumed : Consumes old new (before ++ last)) (yet : IsUnfinished heading before) (small : length last ≤ BLOCK) where
  later : (n : ℕ) → Decides heading (take n (before ++ last)) result → length before < n
  later n decides =
      elim (cases_lt (length before) n) [
        | inl less ↦ less
        | inr most ↦
            absurd (decision_settles heading before n result most
            (subst (λ v. Decides heading v result) (take-append-le n before last most) decides) yet)
      ]

  little : (n : ℕ) → n ≤ length (before ++ last) → Decides heading (take n (before ++ last)) result → TakesLittleMore heading old new result
  little n within decides = (
    take n (before ++ last),
    drop n (before ++ last),
    subst (Consumes old new) (sym (take-append-drop n (before ++ last))) consumed,
    decides,
    omega (arith, within, later n decides, small, length-drop n (before ++ last), length-append before last),
  )

pub after_message : (heading : Heading) (old new : Option (List ℕ)) (message : HttpMessage) → Reads heading old new (Ok message)
    → TakesLittleMore heading old new (Ok message)
    ⊎ ((taken : List ℕ) × Consumes old new taken × EndsAtInput heading taken message × IsAtEnd new)
after_message heading old new message r =
    elim r.5 [
      | inl so ↦ inl (little heading old new r.0 r.1 (Ok message) r.2 r.3 r.4 so.0 so.1 so.2)
      | inr so ↦ inr (r.0 ++ r.1, r.2, so.0, so.1)
    ]

pub after_refusal : (heading : Heading) (old new : Option (List ℕ)) (fault : HttpFault) → Reads heading old new (Err fault)
    → fault ≢ Memory → fault ≢ Truncated → fault ≢ Read → TakesLittleMore heading old new (Err fault)
after_refusal heading old new Memory r m t f = absurd (m refl)
after_refusal heading old new (BadHead place) r m t f =
    little heading old new r.0 r.1 (Err (BadHead place)) r.2 r.3 r.4 r.5.0 r.5.1 r.5.2
after_refusal heading old new NoLength r m t f = little heading old new r.0 r.1 (Err NoLength) r.2 r.3 r.4 r.5.0 r.5.1 r.5.2
after_refusal heading old new TooLarge r m t f = little heading old new r.0 r.1 (Err TooLarge) r.2 r.3 r.4 r.5.0 r.5.1 r.5.2
after_refusal heading old new (BadChunk place) r m t f =
    little heading old new r.0 r.1 (Err (BadChunk place)) r.2 r.3 r.4 r.5.0 r.5.1 r.5.2
after_refusal heading old new Truncated r m t f = absurd (t refl)
after_refusal heading old new Read r m t f = absurd (f refl)

pub before_failure : (heading : Heading) (old new : Option (List ℕ)) → Reads heading old new (Err Read)
    → (taken : List ℕ) × Consumes old new taken × IsUnfinished heading taken
before_failure heading old new r = (r.0 ++ r.1, r.2, r.5)
