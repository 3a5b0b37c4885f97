-- The words of what a line may say fit a form: for the law that a line means one thing.
use Rattle.std.proofs.Common.{inl, inr, None, Some, refl, arith}
use Rattle.ba_core.specs.declared.protocols.Protocol.TheVariants.{Pc, Cc}
use Rattle.ba_world_events.specs.Events.{world_words, IsWritten}
use Rattle.ba_world_events.specs.declared.events.Event.{Event}
use Rattle.ba_world_events.specs.declared.events.Event.TheVariants as world
use Rattle.ba_pair.specs.declared.events.PairEvent.{PairEvent}
use Rattle.ba_pair.specs.declared.events.PairEvent.TheVariants as pair
use Rattle.ba_script_forms.specs.Grammar.{most_32, most_64, opening_forms, pair_forms, world_forms}
use Rattle.ba_script_forms.specs.Readings.{opening_words, IsPlayable, pair_words, IsPairWritten}
use Rattle.ba_script_forms.specs.declared.readings.Form.{Form}
use Rattle.ba_script_forms.specs.declared.readings.Form.TheVariants as form
use Rattle.ba_script_forms.proofs.Accepted.{SomeFits}
use Rattle.ba_script_forms.proofs.Choices.{act_fits, verdict_fits, protocol_fits, kind_fits, leave_fits, image_fits, side_fits}
use Rattle.ba_script_forms.proofs.Fits.{the_fits, number_fits}
use Rattle.ba_script_forms.proofs.Names.{name_fits}

pub opening_fits : (e : Form) → IsPlayable e → SomeFits opening_forms (opening_words e)
unfolding opening_forms
opening_fits (form.Pair p) written =
    inl (the_fits _ _ refl, (protocol_fits p _ refl, tt))
opening_fits (form.World n) written =
    inr (inl (the_fits _ _ refl, (number_fits 1 64 n _ refl (omega arith) (omega arith) (omega arith), tt)))

pub pair_fits : (e : PairEvent) → IsPairWritten e → SomeFits pair_forms (pair_words e)
unfolding pair_forms
pair_fits (pair.Act a) written =
    inl (the_fits _ _ refl, (act_fits a _ refl, tt))
pair_fits (pair.Tick s) written =
    inr (inl (the_fits _ _ refl, (side_fits s _ refl, tt)))
pair_fits (pair.Choose v) written =
    inr (inr (inl (the_fits _ _ refl, (verdict_fits v _ refl, tt))))
pair_fits pair.Complete written =
    inr (inr (inr (inl (the_fits _ _ refl, tt))))
pair_fits (pair.Deliver n) written =
    inr (inr (inr (inr (inl (the_fits _ _ refl, (number_fits 0 most_64 n _ refl (omega arith) (omega arith) (omega arith), tt))))))

pub world_fits : (e : Event) → IsWritten e → SomeFits world_forms (world_words e)
unfolding world_forms
world_fits (world.Create n k None None) written =
    inl (the_fits _ _ refl, (number_fits 0 most_32 n _ refl (omega arith) (omega arith) (omega arith), (kind_fits k _ refl, tt)))
world_fits (world.Create n k None (Some t)) written =
    inr (inl (
      the_fits _ _ refl,
      (
        number_fits 0 most_32 n _ refl (omega arith) (omega arith) (omega arith),
        (kind_fits k _ refl, (the_fits _ _ refl, (number_fits 0 most_32 t _ refl (omega arith) (omega arith) (omega arith), tt))),
      ),
    ))
world_fits (world.Create n k (Some (i, Pc)) None) written =
    inr (inr (inl (
      the_fits _ _ refl,
      (
        number_fits 0 most_32 n _ refl (omega arith) (omega arith) (omega arith),
        (kind_fits k _ refl, (the_fits _ _ refl, (name_fits i _ refl, tt))),
      ),
    )))
world_fits (world.Create n k (Some (i, Pc)) (Some t)) written =
    inr (inr (inr (inl (
      the_fits _ _ refl,
      (
        number_fits 0 most_32 n _ refl (omega arith) (omega arith) (omega arith),
        (
          kind_fits k _ refl,
          (
            the_fits _ _ refl,
            (
              name_fits i _ refl,
              (
                the_fits _ _ refl,
                (number_fits 0 most_32 t _ refl (omega arith) (omega arith) (omega arith), tt),
              ),
            ),
          ),
        ),
      ),
    ))))
world_fits (world.Create n k (Some (i, Cc)) None) written =
    inr (inr (inr (inr (inl (
      the_fits _ _ refl,
      (
        number_fits 0 most_32 n _ refl (omega arith) (omega arith) (omega arith),
        (kind_fits k _ refl, (the_fits _ _ refl, (name_fits i _ refl, (the_fits _ _ refl, tt)))),
      ),
    )))))
world_fits (world.Create n k (Some (i, Cc)) (Some t)) written =
    inr (inr (inr (inr (inr (inl (
      the_fits _ _ refl,
      (
        number_fits 0 most_32 n _ refl (omega arith) (omega arith) (omega arith),
        (
          kind_fits k _ refl,
          (
            the_fits _ _ refl,
            (
              name_fits i _ refl,
              (
                the_fits _ _ refl,
                (
                  the_fits _ _ refl,
                  (number_fits 0 most_32 t _ refl (omega arith) (omega arith) (omega arith), tt),
                ),
              ),
            ),
          ),
        ),
      ),
    ))))))
world_fits (world.Join n p i) written =
    inr (inr (inr (inr (inr (inr (inl (
      the_fits _ _ refl,
      (number_fits 0 most_32 n _ refl (omega arith) (omega arith) (omega arith), (protocol_fits p _ refl, (name_fits i _ refl, tt))),
    )))))))
world_fits (world.Tick i) written =
    inr (inr (inr (inr (inr (inr (inr (inl (the_fits _ _ refl, (name_fits i _ refl, tt)))))))))
world_fits (world.Deliver n) written =
    inr (inr (inr (inr (inr (inr (inr (inr (inl (
      the_fits _ _ refl,
      (number_fits 0 most_64 n _ refl (omega arith) (omega arith) (omega arith), tt),
    )))))))))
world_fits (world.Act i a) written =
    inr (inr (inr (inr (inr (inr (inr (inr (inr (inl (the_fits _ _ refl, (name_fits i _ refl, (act_fits a _ refl, tt))))))))))))
world_fits (world.Ask i) written =
    inr (inr (inr (inr (inr (inr (inr (inr (inr (inr (inl (the_fits _ _ refl, (name_fits i _ refl, tt))))))))))))
world_fits (world.Decide i v) written =
    inr (inr (inr (inr (inr (inr (inr (inr (inr (inr (inr (inl (
      the_fits _ _ refl,
      (
        name_fits i _ refl,
        (
          verdict_fits v _ refl,
          tt,
        ),
      ),
    ))))))))))))
world_fits (world.Choose i v) written =
    inr (inr (inr (inr (inr (inr (inr (inr (inr (inr (inr (inr (inl (
      the_fits _ _ refl,
      (
        name_fits i _ refl,
        (verdict_fits v _ refl, tt),
      ),
    )))))))))))))
world_fits (world.Complete i) written =
    inr (inr (inr (inr (inr (inr (inr (inr (inr (inr (inr (inr (inr (inl (the_fits _ _ refl, (name_fits i _ refl, tt)))))))))))))))
world_fits (world.Finish i) written =
    inr (inr (inr (inr (inr (inr (inr (inr (inr (inr (inr (inr (inr (inr (inl (the_fits _ _ refl, (name_fits i _ refl, tt))))))))))))))))
world_fits (world.Leave i l) written =
    inr (inr (inr (inr (inr (inr (inr (inr (inr (inr (inr (inr (inr (inr (inr (inl (
      the_fits _ _ refl,
      (
        name_fits i _ refl,
        (leave_fits l _ refl, tt),
      ),
    ))))))))))))))))
world_fits (world.Wait t) written =
    inr (inr (inr (inr (inr (inr (inr (inr (inr (inr (inr (inr (inr (inr (inr (inr (inl (
      the_fits _ _ refl,
      (number_fits 0 most_32 t _ refl (omega arith) (omega arith) (omega arith), tt),
    )))))))))))))))))
world_fits (world.Crash n) written =
    inr (inr (inr (inr (inr (inr (inr (inr (inr (inr (inr (inr (inr (inr (inr (inr (inr (inl (
      the_fits _ _ refl,
      (number_fits 0 most_32 n _ refl (omega arith) (omega arith) (omega arith), tt),
    ))))))))))))))))))
world_fits (world.CrashAt n c i) written =
    inr (inr (inr (inr (inr (inr (inr (inr (inr (inr (inr (inr (inr (inr (inr (inr (inr (inr (inl (
      the_fits _ _ refl,
      (
        number_fits 0 most_32 n _ refl (omega arith) (omega arith) (omega arith),
        (number_fits 1 most_32 c _ refl (omega arith) (omega arith) (omega arith), (image_fits i _ refl, tt)),
      ),
    )))))))))))))))))))
world_fits (world.Fail n c) written =
    inr (inr (inr (inr (inr (inr (inr (inr (inr (inr (inr (inr (inr (inr (inr (inr (inr (inr (inr (inl (
      the_fits _ _ refl,
      (
        number_fits 0 most_32 n _ refl (omega arith) (omega arith) (omega arith),
        (number_fits 1 most_32 c _ refl (omega arith) (omega arith) (omega arith), tt),
      ),
    ))))))))))))))))))))
world_fits (world.Open n) written =
    inr (inr (inr (inr (inr (inr (inr (inr (inr (inr (inr (inr (inr (inr (inr (inr (inr (inr (inr (inr (inl (
      the_fits _ _ refl,
      (number_fits 0 most_32 n _ refl (omega arith) (omega arith) (omega arith), tt),
    )))))))))))))))))))))
