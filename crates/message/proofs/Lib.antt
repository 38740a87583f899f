pub mod RoundTrip
pub mod Changes
