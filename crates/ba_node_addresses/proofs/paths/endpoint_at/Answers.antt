use Rattle.std.proofs.Common.{◌≡◌, ◌∙◌, ◌++◌, List, ℕ, Bool, true, false, nat_eq, None, Option, Some, ap, sym, true≢false}
use Rattle.std.proofs.lemmas.Bool.{eq-eqb}
use Rattle.ba_core.specs.declared.identifiers.Id.{Id}
use Rattle.ba_message.specs.declared.endpoints.Epr.{Epr}
use Rattle.ba_node_addresses.proofs.PathLemmas.{path_found}
use Rattle.ba_node_addresses.specs.declared.paths.ObjectPath.{ObjectPath}
use Rattle.ba_node_addresses.proofs.paths.endpoint_at.Goals as goal

pub returns-in_err-found-clause-found : goal.returns-in_err-found-clause-found
returns-in_err-found-clause-found c = λ endpoint small is.
    let none : ◌≡◌ {A = Option ObjectPath} None (Some (record { endpoint = endpoint; id = c.args.id })) =
    c.in_err-found.ensures.found (record { endpoint = endpoint; id = c.args.id }) small
    (path_found c.args.base.now c.as_slice.result.now c.in_ok-path.path.now endpoint c.args.id
    (c.as_slice.ensures ∙ ap (λ (e : Epr). e.address) is) c.in_ok-path.ensures.found) in
    absurd cc

pub returns-else-eq-clause-found : goal.returns-else-eq-clause-found
returns-else-eq-clause-found c = λ endpoint small is.
    let there : ◌≡◌ {A = Option ObjectPath} (Some c.in_ok-found.found) (Some (record { endpoint = endpoint; id = c.args.id })) =
    c.in_ok-found.ensures.found (record { endpoint = endpoint; id = c.args.id }) small
    (path_found c.args.base.now c.as_slice.result.now c.in_ok-path.path.now endpoint c.args.id
    (c.as_slice.ensures ∙ ap (λ (e : Epr). e.address) is) c.in_ok-path.ensures.found) in
    let found : c.in_ok-found.found ≡ record { endpoint = endpoint; id = c.args.id } = cc in
    let same : c.in_ok-found.found.id.0 ≡ c.args.id.0 = ap (λ (at : ObjectPath). at.id.0) found in
    let other : nat_eq c.in_ok-found.found.id.0 c.args.id.0 ≡ false = sym c.eq.ensures ∙ c.if-eq.false in
    absurd (true≢false (sym (eq-eqb c.in_ok-found.found.id.0 c.args.id.0 same) ∙ other))
