-- The next message of bytes that hold several. Assumes nothing: these are definitions.
use Rattle.std.specs.Prelude.{◌≡◌, ℕ, ◌<◌, ◌≤◌, List, length, take, drop, IfSome, IfNone}
use Rattle.message.specs.declared.stream.Next.{Next}

-- the first 12 bytes and what follows them; or, where there are fewer, none and all as they are
pub record NextOf (stream : List ℕ) (next : Next) : Type 0 where
  pub whole : IfSome next.message (λ bytes. (12 ≤ length stream) × (bytes.now ≡ take 12 stream) × (next.rest.now ≡ drop 12 stream))
  pub shorter : IfNone next.message ((length stream < 12) × (next.rest.now ≡ stream))
