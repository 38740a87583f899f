-- `ask` meets its contract: it is a thin entry over a step by value. Assumes nothing.
use Rattle.std.proofs.Common.{refl}
use prog.Wp.{Tables}
use contract.Running.{tables, tables_of}
use denote.Triple.Spec.{triple_of}
use denote.Triple.Table.{entered, cited}
use Rattle.onboard.specs.Steps.{asked}
use Rattle.entries.specs.contracts.unit_entry.ask as F
use Rattle.entries.specs.contracts.unit_entry.ask.Key.{name as #self}
use Rattle.entries.proofs.With.{lent}
use Rattle.entries.proofs.Rows.{onboard, number, word_or_refused}
use Rattle.onboard.proofs.unit.Onboard.ask.Symbol as step·sym
use Rattle.onboard.proofs.unit.Onboard.ask.Met as step_met
use Rattle.entries.proofs.unit_entry.ask.Statement as stated
use Rattle.entries.proofs.unit_entry.ask.Code as code

pub ask_spec : {M : Type 1} → stated.statement M
unfolding tables_of
ask_spec 𝓤 𝓛 𝓜 𝓡 wired =
    let 𝓣 : Tables 𝓤 𝓛.H = tables_of 𝓤 𝓛.H 𝓜 (tables 𝓤 𝓛.H 𝓜 𝓡 𝓡.env) in
    entered 𝓤 𝓛.H (triple_of 𝓛 F.signature (F.spec 𝓛 𝓜.mem 𝓡.returns)) 𝓣.C 𝓣.Λ #self code.function (code.unfolded 𝓤 𝓛.H 𝓜 𝓡 wired)
    (lent onboard number word_or_refused (λ u _. u) asked 𝓤 𝓛 𝓣 step·sym.name (cited 𝓤 𝓛.H _ 𝓜 𝓡 𝓡.env step·sym.name (𝓡.env step·sym.name) refl (step_met.met 𝓤 𝓛 𝓜 𝓡 (code.calls-onboard::unit::Onboard::ask 𝓡.env wired))))
