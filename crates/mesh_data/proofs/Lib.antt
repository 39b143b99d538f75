mod DistanceLaws
