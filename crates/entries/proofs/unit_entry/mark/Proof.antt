-- `mark` meets its contract: it is a thin entry over a step by value. Assumes nothing.
use Rattle.std.proofs.Common.{refl}
use prog.Wp.{Tables}
use contract.Running.{tables, tables_of}
use denote.Triple.Spec.{triple_of}
use denote.Triple.Table.{entered, cited}
use Rattle.braking.specs.Refusals.{kept, done}
use Rattle.onboard.specs.Steps.{after_mark}
use Rattle.entries.specs.contracts.unit_entry.mark as F
use Rattle.entries.specs.contracts.unit_entry.mark.Key.{name as #self}
use Rattle.entries.proofs.With.{lent}
use Rattle.entries.proofs.Rows.{onboard, number, done_or_refused}
use Rattle.onboard.proofs.unit.Onboard.mark.Symbol as step·sym
use Rattle.onboard.proofs.unit.Onboard.mark.Met as step_met
use Rattle.entries.proofs.unit_entry.mark.Statement as stated
use Rattle.entries.proofs.unit_entry.mark.Code as code

pub mark_spec : {M : Type 1} → stated.statement M
unfolding tables_of
mark_spec 𝓤 𝓛 𝓜 𝓡 wired =
    let 𝓣 : Tables 𝓤 𝓛.H = tables_of 𝓤 𝓛.H 𝓜 (tables 𝓤 𝓛.H 𝓜 𝓡 𝓡.env) in
    entered 𝓤 𝓛.H (triple_of 𝓛 F.signature (F.spec 𝓛 𝓜.mem 𝓡.returns)) 𝓣.C 𝓣.Λ #self code.function (code.unfolded 𝓤 𝓛.H 𝓜 𝓡 wired)
    (lent onboard number done_or_refused (λ u place. kept u (after_mark u place)) (λ u place. done (after_mark u place)) 𝓤 𝓛 𝓣 step·sym.name (cited 𝓤 𝓛.H _ 𝓜 𝓡 𝓡.env step·sym.name (𝓡.env step·sym.name) refl (step_met.met 𝓤 𝓛 𝓜 𝓡 (code.calls-onboard::unit::Onboard::mark 𝓡.env wired))))
