mod ReadBack
mod Filling
mod InputRows
mod WordRows
mod ScoreRows
mod Renewing
