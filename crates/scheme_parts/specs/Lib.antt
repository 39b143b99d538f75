pub mod AccelOf
pub mod ExchangeOf
pub mod MapPlaces
pub mod MeasureOf
pub mod Names
pub mod NumbersOf
pub mod SchemeOf
