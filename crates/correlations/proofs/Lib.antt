mod Crossing
mod FourBins
mod FoldHalves
mod Binning
mod Adding
