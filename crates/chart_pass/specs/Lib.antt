-- What the contracts of the main call's pass cite, beside the definitions.
pub mod ChartPass
