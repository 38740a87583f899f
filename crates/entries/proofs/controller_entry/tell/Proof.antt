-- `tell` meets its contract: it is a thin entry over a step by value. Assumes nothing.
use Rattle.std.proofs.Common.{refl}
use prog.Wp.{Tables}
use contract.Running.{tables, tables_of}
use denote.Triple.Spec.{triple_of}
use denote.Triple.Table.{entered, cited}
use Rattle.radio.specs.Ends.{tell_bytes}
use Rattle.entries.specs.contracts.controller_entry.tell as F
use Rattle.entries.specs.contracts.controller_entry.tell.Key.{name as #self}
use Rattle.entries.proofs.With.{lent}
use Rattle.entries.proofs.Rows.{controller, number, sent_or_refused}
use Rattle.radio.proofs.tell.Symbol as step·sym
use Rattle.radio.proofs.tell.Met as step_met
use Rattle.entries.proofs.controller_entry.tell.Statement as stated
use Rattle.entries.proofs.controller_entry.tell.Code as code

pub tell_spec : {M : Type 1} → stated.statement M
unfolding tables_of
tell_spec 𝓤 𝓛 𝓜 𝓡 wired =
    let 𝓣 : Tables 𝓤 𝓛.H = tables_of 𝓤 𝓛.H 𝓜 (tables 𝓤 𝓛.H 𝓜 𝓡 𝓡.env) in
    entered 𝓤 𝓛.H (triple_of 𝓛 F.signature (F.spec 𝓛 𝓜.mem 𝓡.returns)) 𝓣.C 𝓣.Λ #self code.function (code.unfolded 𝓤 𝓛.H 𝓜 𝓡 wired)
    (lent controller number sent_or_refused (λ c _. c) tell_bytes 𝓤 𝓛 𝓣 step·sym.name (cited 𝓤 𝓛.H _ 𝓜 𝓡 𝓡.env step·sym.name (𝓡.env step·sym.name) refl (step_met.met 𝓤 𝓛 𝓜 𝓡 (code.calls-radio::tell 𝓡.env wired))))
