pub mod NearestIsNearest
