-- The walk through an entry that is lent a state and a slice of bytes; else as in With. Assumes the `Logic` of the logic.
use Rattle.std.proofs.Common.{◌≡◌, ℕ, List, [], ◌∷◌, length, refl, ap, w8, Bor}
use seplogic.Ra.Ura.{Ura}
use base.Fraction.{full_share}
use mir.Syntax.{Fn, Ty, Callee, named, mut, imm, ty_int, ty_ref, local, value_local, place, copy, deref, field, assign, call, seq, return, rv_opd}
use mir.Val.{Val, vptr}
use base.Logic.{SProp, ent, sep, emp, id⊢, via, fst∗}
use base.Fml.{GName, Lft, Share, ftrue, flft, fobs, fbor}
use prog.Wp.{WpFn, Tables}
use types.Logic.{Logic}
use contract.Monad.{fact}
use sound.WpLaws.{fm_of, WpFn-mono}
use types.Kit.{‵, raw, ◌⊛◌, some, later, ◌$◌, ◌∵◌, !, qed, by, move, keep, drop, use1, split, join, pick, fsplit, fsplit3, fjoin, fjoin3, feq_i, suffices, frame, await, done}
use types.Run.{look_raw, store_raw, stop, fld, load, no_more, and_then, of_opd, assigns, returns, enter}
use types.Part.{whole, sub}
use types.ByLocal.{alloc_all, pass_all, free_all, look_at, get, get_in, through, sets, lands_as}
use types.SemTy.{Body}
use denote.Builtin.{RefMutOf, SliceRefOf, u8}
use denote.Exit.{yes}
use denote.RattleType.{RattleType, owns}
use denote.Laws.{Is, shows}
use denote.Memory.{mem, lone, pointee}
use denote.Ref.{MutRef, mut_vals, mut_Tells}
use denote.Slice.{Room, ShrSlice, slice_ty, shr_slice_vals, shr_slice_Tells}
use denote.Signature.{plain}
use denote.Steps.{opens, closes, owned, facts, heard, nothing, only}
use denote.Struct.Laws as LL
use denote.Struct.Steps.{spelt}
use denote.Struct.Declared.{row}
use denote.Triple.End.{Fins, lasts_of}
use denote.Struct.Tuple.{Tuple}
use denote.Triple.Call.{calls_at}
use denote.Triple.Clauses.{Ended, Clauses, closing}
use denote.Triple.Entry.{on_entry}
use denote.Triple.Spec.{Meets, exits, triple_of}
use denote.Triple.Statement.{Contract, Triple}
use denote.Triple.Walked.{Stays, stay_ref, stay_dropped, walk_of, ends_at, walked, Goes-ref, Goes-dropped, walk_Meets}
use Rattle.std.proofs.mem.Facts.{says_two}
use Rattle.entries.proofs.Kind.{State, Kind, Good, makes, good, rows, pair, pair_laws, second}

module _ (X : State) (Y : Kind) where
  abbrev Lent : Type 0
  Lent = X.type.D

  abbrev Answer : Type 0
  Answer = Y.row.Denot

  -- the slice that is lent, under the second lifetime of the entry and the first of the step
  abbrev Arg : Type 0
  Arg = Bor (List ℕ)

  -- the rows of state and answer
  abbrev R : RattleType
  R = row X.type

  abbrev Q : RattleType
  Q = Y.row

  abbrev valR : Lent → List Val
  valR = LL.vals X.type X.laws

  abbrev τR : Ty
  τR = lone R.mir

  abbrev τQ : Ty
  τQ = lone Q.mir

  abbrev τpair : Ty
  τpair = lone (Tuple (rows X Y)).mir

  abbrev pub function : Callee → Fn
  function f = record {
    lifetimes = 2;
    outlives = [];
    ty_params = [];
    givens = 0;
    params = 2;
    locals = local τQ value_local ∷ local (ty_ref (named 0) mut (pointee R.written)) value_local ∷ local (slice_ty (ty_ref (named 1) imm (ty_int w8))) value_local ∷ local τR value_local ∷ local τQ value_local ∷ local τpair value_local ∷ local τR value_local ∷ [];
    body =
        seq (assign (place 6 []) (rv_opd (copy (place 1 (deref τR ∷ [])))))
        (seq (call f (copy (place 6 []) ∷ copy (place 2 []) ∷ []) (place 5 []))
        (seq (assign (place 3 []) (rv_opd (copy (place 5 (field 0 ∷ [])))))
        (seq (assign (place 4 []) (rv_opd (copy (place 5 (field 1 ∷ [])))))
        (seq (assign (place 1 (deref τR ∷ [])) (rv_opd (copy (place 3 []))))
        (seq (assign (place 0 []) (rv_opd (copy (place 4 [])))) return)))));
  }

  abbrev pub ended : Ended
  ended = record { signature = record { lifetimes = 2; outlives = []; params = RefMutOf (0 ∷ []) tt (plain (λ _. R)) (λ _. tt) ∷ SliceRefOf (1 ∷ []) tt (plain (λ _. u8)) (λ _. tt) ∷ []; result = plain (λ _. Q) }; kept = (yes, (yes, tt)) }

  abbrev pub step_ended : Ended
  step_ended = record { signature = record { lifetimes = 1; outlives = []; params = plain (λ _. R) ∷ SliceRefOf (0 ∷ []) tt (plain (λ _. u8)) (λ _. tt) ∷ []; result = plain (λ _. Tuple (rows X Y)) }; kept = (yes, (yes, tt)) }

  abbrev stayed : Stays ended.signature.params ended.kept
  stayed = (stay_ref (0 ∷ []) tt (plain (λ _. R)), (stay_dropped (SliceRefOf (1 ∷ []) tt (plain (λ _. u8)) (λ _. tt)) yes, tt))

  -- a step by value: the state that it makes, and what it answers
  module _ (step : Lent → List ℕ → Lent) (answer : Lent → List ℕ → Answer) {M : Type 1} (𝓤 : Ura M) where
    abbrev pub clauses : Clauses 𝓤 ended
    clauses κs a = record { ghost = Unit {0}; requires = λ _. emp 𝓤; ensures = λ _ r w. sep 𝓤 (fact 𝓤 (w.0.now ≡ step a.0.now a.1.0.now)) (fact 𝓤 (r ≡ answer a.0.now a.1.0.now)) }

    module _ (𝓛 : Logic 𝓤) where
      open 𝓛 use {H, A}

      abbrev pub Step : Contract 𝓤
      Step = triple_of 𝓛 step_ended.signature (λ κs a. record { ghost = Unit {0}; requires = λ _. emp 𝓤; ensures = λ _ r. exits 𝓛 step_ended.signature step_ended.kept κs a (λ w. sep 𝓤 (fact 𝓤 (r.0 ≡ step a.0 a.1.0.now)) (fact 𝓤 (r.1 ≡ answer a.0 a.1.0.now))) })

      module _ (𝓣 : Tables 𝓤 H) (f : Callee) (met : Triple 𝓤 (𝓣.C f) Step) where
        module _ (κ κ' : Lft) (q q' : Share) (b o : ℕ) (γ : GName) (h : Lent) (n : Arg) (room : Room u8 (length n.now)) where
          abbrev bound : (walk_of 𝓛 ended stayed clauses).Ghost
          bound = (((κ, (κ', tt)), (q, (q', tt)), tt, (record { ref_ptr = (b, o); ghost_name = γ; now = h }, (n, tt)), (vptr b o ∷ [], (shr_slice_vals n, tt))), tt)

          abbrev Post : Val → SProp 𝓤
          Post = (walk_of 𝓛 ended stayed clauses).post bound

          leaves : (u : Lent) (w : Answer) (v : Val) → u ≡ step h n.now → w ≡ answer h n.now → Is Q w (v ∷ []) → ent 𝓤 (sep 𝓤 (A.obs γ (R.coded.code u)) (sep 𝓤 (A.bor κ (Body (mem R) b o γ)) (sep 𝓤 (A.lft κ q) (A.lft κ' q')))) (Post v)
          leaves u w v eu ew is =
              qed 𝓛 (‵ (fobs γ (R.coded.code u)) ∷ ‵ (fbor κ (Body (mem R) b o γ)) ∷ ‵ (flft κ q) ∷ ‵ (flft κ' q') ∷ []) ∵
              suffices ! _ (ends_at 𝓛 ended stayed clauses bound v w (u, (tt, tt)) (tt, (tt, tt))) $ says_two ! (eu, ew) $
              nothing ! $ move ! (4 ∷ 0 ∷ []) $ join ! $ move ! (3 ∷ 0 ∷ []) $ join ! $ frame ! $
              feq_i ! (List Val) (vptr b o ∷ []) (vptr b o ∷ []) refl $ fjoin3 ! $ nothing ! $ nothing ! $ fjoin ! $ move ! (1 ∷ 0 ∷ []) $ fjoin ! $
              owned ! Q (Is Q) (makes Y 𝓛) w (v ∷ []) is $ move ! (1 ∷ 0 ∷ []) $ done !

          walk : ent 𝓤 (on_entry 𝓛 ended.signature (κ, (κ', tt)) (q, (q', tt)) bound.0.3 bound.0.4) (WpFn 𝓤 H 𝓣.C 𝓣.Λ (function f) (vptr b o ∷ shr_slice_vals n) Post)
          walk =
              let y : Step.Ghost = (((κ', tt), (q', tt), tt, (h, (n, tt)), (valR h, (shr_slice_vals n, tt))), tt) in
              qed 𝓛 ((‵ (flft κ q) ⊛ (‵ (flft κ' q') ⊛ ‵ ftrue)) ∷ ‵ (owns (MutRef (named 0) κ R ∷ ShrSlice (named 1) κ' u8 ∷ []) bound.0.3 bound.0.4) ∷ []) ∵
              split ! $ move ! (1 ∷ []) $ split ! $ keep ! (3 ∷ 2 ∷ 0 ∷ []) $ fsplit ! $ move ! (1 ∷ []) $ fsplit ! $ keep ! (2 ∷ 3 ∷ 4 ∷ 0 ∷ []) $ fsplit3 ! $ drop ! $
              -- [the observation; the borrow; the token; the slice's token; the slice]
              enter ! 𝓣.C 𝓣.Λ (function f) (vptr b o ∷ shr_slice_vals n) _ $ alloc_all ! (λ l. pass_all ! refl ((tt, tt), ((tt, (tt, (record { fits = room.0 }, tt))), tt)) $
              opens ! tt R {h = h} b o (λ vs. spelt ! R (Is R) (shows 𝓛 R) valR (LL.tells X.type X.laws) full_share h vs b o $
              move ! (1 ∷ []) $ facts ! R (Is R) (shows 𝓛 R) h (valR h) (λ was.
              -- [the state's cell; the open borrow; the observation; its other half; the slice's token; the slice; the locals]
              -- the state is copied
              sets ! (of_opd ! (load ! (through ! refl (stop !)) (look_raw ! 0 refl))) refl ((LL.lawful X.type X.laws 𝓛).typed h (valR h) was).0 $
              nothing ! $ nothing ! $ move ! (7 ∷ []) $ fjoin ! $ owned ! R (Is R) (LL.makes X.type X.plain 𝓛) h (valR h) was $ fjoin ! $
              nothing ! $ move ! (7 ∷ []) $ join ! $ join ! $ join ! $ use1 𝓛 (raw (Step.pre y)) (id⊢ 𝓤 _) $
              -- the step is called
              calls_at ! (fm_of 𝓤 H 𝓛.laws 𝓣) Step met y (and_then ! (get ! refl) (and_then ! (get ! refl) (no_more !))) (λ v.
              use1 𝓛 (later (some (λ (r : Lent × Answer). ((‵ (flft κ' q') ⊛ ‵ ftrue) ⊛ ‵ ((Tuple (rows X Y)).own_val r (v ∷ []))) ⊛ some (λ (ws : Fins {n = 1} (κ', tt) step_ended.signature.params step_ended.kept y.0.3). ‵ (lasts_of {n = 1} (κ', tt) step_ended.signature.params step_ended.kept y.0.3 ws) ⊛ (raw (fact 𝓤 (r.0 ≡ step h n.now)) ⊛ raw (fact 𝓤 (r.1 ≡ answer h n.now))))))) (id⊢ 𝓤 _) $ await ! tt $ pick ! (λ r.
              split ! $ split ! $ split ! $ move ! (2 ∷ 3 ∷ []) $ facts ! (Tuple (rows X Y)) (Is (Tuple (rows X Y))) (shows 𝓛 (Tuple (rows X Y))) r (v ∷ []) (λ got. pick ! (λ ws. split ! $ drop ! $ split ! $ heard ! (r.0 ≡ step h n.now) (λ eu. heard ! (r.1 ≡ answer h n.now) (λ ew. move ! (2 ∷ 3 ∷ 4 ∷ 5 ∷ []) $
              let is = LL.owed (pair X Y) (pair_laws X Y) r (v ∷ []) got in
              let good_r : Good R (LL.val X.type X.laws r.0) = ((LL.lawful X.type X.laws 𝓛).typed r.0 (valR r.0) is.0).0 in
              let goodQ : Good Q (Y.told.val r.1) = good Y 𝓛 r.1 is.1.0 in
              -- what it hands back lands
              lands_as ! (ap only (LL.tells (pair X Y) (pair_laws X Y) r (v ∷ []) got)) refl ((LL.lawful (pair X Y) (pair_laws X Y) 𝓛).typed r (LL.vals (pair X Y) (pair_laws X Y) r) (LL.owes (pair X Y) (pair_laws X Y) r is)).0 $
              -- its first part is the state, its second the answer
              sets ! (of_opd ! (get_in ! (fld ! refl (stop !)) (sub ! 0 refl (whole !)))) refl good_r $
              sets ! (of_opd ! (get_in ! (fld ! (second X Y) (stop !)) (sub ! 1 (second X Y) (whole !)))) refl goodQ $
              -- the state is written back
              assigns ! (of_opd ! (get ! refl)) (through ! refl (stop !)) (store_raw ! 0 refl good_r) $
              -- the answer is returned
              sets ! (of_opd ! (get ! refl)) refl goodQ $
              owned ! R (Is R) (LL.makes X.type X.plain 𝓛) r.0 (valR r.0) is.0 $ move ! (1 ∷ 0 ∷ []) $ closes ! tt R r.0 (valR r.0) b o $
              returns ! (look_at ! 0 refl) $ free_all ! refl $ keep ! (0 ∷ 1 ∷ 2 ∷ 3 ∷ []) $ by ! (leaves r.0 r.1 _ eu ew is.1.0))))))))))

        pub lent : Meets 𝓛 ended.signature (WpFn 𝓤 H 𝓣.C 𝓣.Λ (function f)) (closing 𝓛 ended clauses)
        lent =
            walk_Meets 𝓛 ended stayed (Goes-ref 𝓛 2 0 tt (plain (λ _. R)), (Goes-dropped 𝓛 2 (SliceRefOf (1 ∷ []) tt (plain (λ _. u8)) (λ _. tt)) yes (λ κs x f. refl), tt)) clauses (WpFn 𝓤 H 𝓣.C 𝓣.Λ (function f)) (WpFn-mono 𝓤 H 𝓛.laws 𝓣 (function f))
            (walked 𝓛 ended stayed clauses (WpFn 𝓤 H 𝓣.C 𝓣.Λ (function f)) (λ κs. (mut_vals, (shr_slice_vals, tt))) (λ κs. (mut_Tells (named 0) κs.0 R, (shr_slice_Tells (named 1) κs.1.0 u8, tt)))
            (λ κs qs bounds a g are. via 𝓤 _ (fst∗ 𝓤 _ (emp 𝓤)) (walk κs.0 κs.1.0 qs.0 qs.1.0 a.0.ref_ptr.0 a.0.ref_ptr.1 a.0.ghost_name a.0.now a.1.0 are.1.0.0.1)))
