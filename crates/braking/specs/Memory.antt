-- Room in lists. Assumes nothing: these are definitions.
use Rattle.std.specs.Prelude.{◌≤◌, vec_capacity, vec_len}
use Rattle.std.specs.declared.alloc.Global.{Global}
use Rattle.std.specs.declared.vec.Vec.{Vec}

-- there is no room for one more in a list without more memory
abbrev pub Full : {A : Type 0} → Vec A Global → Type 0
Full list = vec_capacity list ≤ vec_len list
